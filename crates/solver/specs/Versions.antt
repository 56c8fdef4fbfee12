-- The version of the log that a search writes.
use Rattle.std.specs.Prelude.{ℕ, nat_eq, if◌then◌else◌}
use Rattle.logtext.specs.declared.version.Version.{Version}
use Rattle.logtext.specs.declared.version.Version.TheVariants.{One, Two}

-- the first where it never begins anew, so that readers of that version alone read it
abbrev pub version_of : ℕ → Version
version_of restarts = if nat_eq restarts 0 then One else Two
