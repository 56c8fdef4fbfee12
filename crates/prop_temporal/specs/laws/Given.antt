-- What is given for nothing, or for whatever is found, gives more.
use Rattle.std.specs.Prelude.{Option, Some, None, IfSome, IfNone}

pub none_by : {X : Type 0} {P Q : Type 0} (o : Option X) → (P → Q) → IfNone o P → IfNone o Q
none_by None f h = f h
none_by (Some x) f h = tt

pub some_by : {X : Type 0} {P Q : X → Type 0} (o : Option X) → ((x : X) → P x → Q x) → IfSome o P → IfSome o Q
some_by None f h = tt
some_by (Some x) f h = f x h
