-- What holds of bytes, where a desk tells them.
use Rattle.std.specs.Prelude.{Option, Some, None, IfSome}
use Rattle.textline.specs.Lines.{Bytes}

pub each : (o : Option Bytes) (P Q : Bytes → Type 0) → ((bs : Bytes) → P bs → Q bs) → IfSome o P → IfSome o Q
each None P Q f is = tt
each (Some bs) P Q f is = f bs is

pub both : (o : Option Bytes) (P Q : Bytes → Type 0) → IfSome o P → IfSome o Q → IfSome o (λ bs. P bs × Q bs)
both None P Q is also = tt
both (Some bs) P Q is also = (is, also)
