use Rattle.std.proofs.Common.{◌≡◌, rules}
use Rattle.std.specs.Prelude.{option_map}
use Rattle.kernel.specs.Agenda.{first_in}
use Rattle.kernel.proofs.Readies.{first_is_of}
use Rattle.kernel.proofs.kernel.Kernel.first.Goals as goal

pub returns-clause-of : goal.returns-clause-of
returns-clause-of g c =
    let is : option_map (λ r. r.now.region) c.first.result ≡ first_in c.args.self.now.current c.args.self.now.waiting = search rules in
    λ m ready. first_is_of (λ r. r.now.region) m c.args.self.now c.first.result is ready
