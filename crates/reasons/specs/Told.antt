-- What stands on standard error where the words aren't one or two; given_files has what a stop puts there.
use Rattle.std.specs.Prelude.{[], ◌∷◌, codes}
use Rattle.textline.specs.Lines.{Bytes, line}

abbrev pub usage_line : Bytes
usage_line = line (codes "usage: why MODEL [SCHEDULE]" ∷ [])
