-- The levels of wake queues.
use Rattle.std.specs.Prelude.{◌≡◌, ℕ, List, [], ◌∷◌, map}
use Rattle.iqueue.specs.code.Queue.{Queue, without}

abbrev pub lists_of : List Queue → List (List ℕ)
lists_of qs = map (λ q. q.list) qs

abbrev pub AreBelow : ℕ → List Queue → Type 0
AreBelow n [] = Unit {0}
AreBelow n (q ∷ qs) = (q.below ≡ n) × AreBelow n qs

-- a queue without a number
abbrev pub queue_without : ℕ → Queue → Queue
queue_without k q = record q { list = without k q.list }
