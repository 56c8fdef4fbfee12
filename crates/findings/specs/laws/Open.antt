-- Who is present, or is asked about, isn't absent.
use Rattle.std.specs.Prelude.{◌≡◌, Bool, true, false, not, ◌&&◌}
use Rattle.std.proofs.Common.{refl}
use Rattle.region.specs.declared.types.Presence.{Presence}
use Rattle.region.specs.declared.types.Presence.TheVariants as presence
use Rattle.region.specs.declared.types.Bounds.{Bounds}
use Rattle.region.specs.declared.types.Claim.{Claim}
use Rattle.region.specs.declared.types.Claim.TheVariants.{Present, Absent, StartLe, StartGe, EndLe, EndGe}
use Rattle.region.specs.Cells.{says_present, says_absent, says_maybe}
use Rattle.region.specs.Claims.{is_open_at}

-- who is present isn't absent
pub not_absent : (p : Presence) → says_present p ≡ true → says_absent p ≡ false
not_absent presence.Absent h = cc
not_absent presence.Present h = refl
not_absent presence.Maybe h = refl

maybe_not_absent : (p : Presence) → says_maybe p ≡ true → says_absent p ≡ false
maybe_not_absent presence.Absent h = cc
maybe_not_absent presence.Present h = refl
maybe_not_absent presence.Maybe h = refl

first_of_three : (b c d : Bool) → (not b && c && d) ≡ true → b ≡ false
first_of_three true c d h = cc
first_of_three false c d h = refl

-- nor is who is asked about
pub open_not_absent : (c : Claim) (b : Bounds) → is_open_at c b ≡ true → says_absent b.presence ≡ false
open_not_absent Present b h = maybe_not_absent b.presence h
open_not_absent Absent b h = maybe_not_absent b.presence h
open_not_absent (StartLe t) b h = first_of_three (says_absent b.presence) _ _ h
open_not_absent (StartGe t) b h = first_of_three (says_absent b.presence) _ _ h
open_not_absent (EndLe t) b h = first_of_three (says_absent b.presence) _ _ h
open_not_absent (EndGe t) b h = first_of_three (says_absent b.presence) _ _ h
