-- What stands on standard error where the words are no command, or a log is refused; given_files has the other lines.
use Rattle.std.specs.Prelude.{ℕ, [], ◌∷◌, codes}
use Rattle.std.specs.Fmt.{decimal}
use Rattle.textline.specs.Lines.{Bytes, line}

abbrev pub usage_line : Bytes
usage_line = line (codes "usage: schedtool COMMAND ARGUMENTS" ∷ [])

abbrev pub log_line : ℕ → Bytes
log_line k = line (codes "log" ∷ codes "refused" ∷ codes "line" ∷ decimal k ∷ [])

abbrev pub too_long_line : Bytes
too_long_line = line (codes "log too long" ∷ [])
