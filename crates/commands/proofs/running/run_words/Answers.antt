use Rattle.std.proofs.Common.{map, string_bytes, sym, subst}
use Rattle.command_line.specs.Commands.{command_of}
use Rattle.commands.specs.Runs.{RunPromise}
use Rattle.commands.proofs.Ending.{words_unread}
use Rattle.commands.proofs.Within.{unopened_within}
use Rattle.commands.proofs.running.run_words.Goals as goal

pub returns-in-Err-NoMemory-clause-runs : goal.returns-in-Err-NoMemory-clause-runs
returns-in-Err-NoMemory-clause-runs g c =
    let command = command_of (map string_bytes c.args.words.now) in
    let old = g.D.Desk.state c.args.desk.now in
    let new = g.D.Desk.state c.end_stopped.new.desk in
    subst (λ e. RunPromise command e old new) (sym c.end_stopped.ensures.0) (words_unread command old new c.end_stopped.ensures.1)

pub returns-in-Err-NoMemory-clause-within : goal.returns-in-Err-NoMemory-clause-within
returns-in-Err-NoMemory-clause-within g c = unopened_within (command_of (map string_bytes c.args.words.now)) _ (g.D.Desk.state c.args.desk.now) (g.D.Desk.state c.end_stopped.new.desk) c.end_stopped.ensures.1
