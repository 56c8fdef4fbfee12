use Rattle.std.proofs.Common.{rules, ◌≡◌, ◌∙◌, ap, ap₂, codes, true, map, IfOk, IfErr, None, subst, string_bytes}
use Rattle.clap.specs.Words.{FailsBy, HasMatchesOf, app_of, fault_of, is_simple_and_free, new_app, rule_of, with_rule}
use Rattle.clap.specs.Simple.{app_of_fields}
use Rattle.clap.specs.declared.builder.command.Command.{Command}
use Rattle.clap.specs.declared.builder.command.Command.TheOpen.{Command-F}
use Rattle.command_line.proofs.Walks.{starts, strings_utf8}
use Rattle.command_line.proofs.Parses.{app, nodes_arg, restarts_arg, outcome}
use Rattle.command_line.proofs.Memory.{memory_or}
use Rattle.command_line.specs.Commands.{command_by}
use Rattle.command_line.specs.declared.commands.Verb.{Verb}
use Rattle.clap.specs.Words.{kind_of}
use Rattle.clap.specs.declared.error.kind.ErrorKind.TheVariants as kind
use Rattle.command_line.proofs.arguments.matched.Goals as goal

pub returns-in_err-arg-5-clause-err : goal.returns-in_err-arg-5-clause-err
returns-in_err-arg-5-clause-err c =
    let memory : IfErr c.from_residual-in_err-arg-5.result (λ e. kind_of e ≡ kind.OutOfMemory) = search rules in
    memory_or c.from_residual-in_err-arg-5.result (λ e. kind_of e ≡ kind.OutOfMemory) ((v : Verb) → command_by v (map string_bytes c.args.words.now) ≡ None) memory

pub returns : goal.returns
returns c =
    let nodes_is : rule_of c.long.result ≡ nodes_arg = search rules in
    let restarts_is : rule_of c.long-2.result ≡ restarts_arg = search rules in
    let start_is : app_of c.disable_help_flag.result ≡ starts (new_app (codes "schedtool")) =
    ap app_of_fields (c.disable_help_flag.ensures ∙ ap (λ (f : Command-F Command). record f { disable_help_flag = true }) c.no_binary_name.ensures)
    ∙ ap starts c.new.ensures.app in
    let command_is : app_of c.in_ok-command.command ≡ app = c.in_ok-command.ensures.shape (search rules)
    ∙ ap₂ with_rule (c.in_ok-arg-5.ensures.shape (search rules)
    ∙ ap₂ with_rule (c.in_ok-arg-4.ensures.shape c.new-5.ensures.optional.1
    ∙ ap₂ with_rule (c.in_ok-arg-3.ensures.shape c.new-4.ensures.optional.1
    ∙ ap₂ with_rule (c.in_ok-arg-2.ensures.shape c.new-3.ensures.optional.1
    ∙ ap₂ with_rule (c.in_ok-arg.ensures.shape c.new-2.ensures.optional.1 ∙ ap₂ with_rule start_is c.new-2.ensures.rule) c.new-3.ensures.rule) c.new-4.ensures.rule) c.new-5.ensures.rule) nodes_is) restarts_is in
    let words = map string_bytes c.args.words.now in
    let parse = c.try_get_matches_from in
    let fails : FailsBy (fault_of app words) parse.result =
    subst (λ a. FailsBy (fault_of a words) parse.result) command_is (parse.ensures.kinds (ap is_simple_and_free command_is)) in
    let has : IfOk parse.result (HasMatchesOf app words) = subst (λ a. IfOk parse.result (HasMatchesOf a words)) command_is parse.ensures.matches in
    let both = outcome words parse.result (strings_utf8 c.args.words.now) fails has in
    record { ok = both.0; err = both.1 }
