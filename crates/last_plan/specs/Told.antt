-- What stands on standard error where the words aren't right, or a log is refused; given_files has the other lines.
use Rattle.std.specs.Prelude.{ℕ, [], ◌∷◌, codes}
use Rattle.std.specs.Fmt.{decimal}
use Rattle.textline.specs.Lines.{Bytes, line}

abbrev pub usage_line : Bytes
usage_line = line (codes "usage: lastplan [--count] MODEL LOG" ∷ [])

-- the line, and the byte at which it begins
abbrev pub log_line : ℕ → ℕ → Bytes
log_line k at = line (codes "log" ∷ codes "refused" ∷ codes "line" ∷ decimal k ∷ codes "at" ∷ decimal at ∷ [])

abbrev pub too_long_line : Bytes
too_long_line = line (codes "log too long" ∷ [])
