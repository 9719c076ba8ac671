use Rattle.std.proofs.Common.{◌≡◌, ◌∙◌, rules, ap, ap₂, [], ◌∷◌, Some, true, pos, codes}
use Rattle.std.proofs.lemmas.Result.{IfOk-weaker}
use Rattle.clap.specs.Words.{Rule, app_of, new_app, new_rule, rule_of}
use Rattle.clap.specs.Simple.{app_of_fields, on_top}
use Rattle.clap.specs.declared.builder.value_parser.ValueParser.TheVariants.{Signed}
use Rattle.paris_cli.specs.Words.{desk_option, workers_option}
use Rattle.paris_cli.proofs.TakenWords.{command_is}
use Rattle.paris_cli.proofs.words.command_line.Goals as goal

pub returns : goal.returns
returns c =
    let range_is : c.range.result ≡ Signed (pos 1) (pos 16) = rw (c.value_parser.ensures, c.new-2.ensures.start, c.new-2.ensures.end) at c.range.ensures in
    let given = c.value_parser-2.ensures.given in
    let parser_is : c.value_parser-2.result.value_parser ≡ Some (Signed (pos 1) (pos 16)) = given.1 ∙ ap Some (given.2 ∙ range_is) in
    let named : rule_of c.help.result ≡ record (new_rule (codes "workers")) { long = Some (codes "workers"); value_names = 1 } = search rules in
    let parsed : rule_of c.value_parser-2.result ≡ record (rule_of c.help.result) { parser = c.value_parser-2.result.value_parser } =
    ap rule_of c.value_parser-2.ensures.others in
    let rule_is : rule_of c.default_value-workers.result ≡ workers_option =
    ap rule_of c.default_value-workers.ensures ∙ ap (λ (r : Rule). record r { defaults = codes "2" ∷ [] }) (parsed ∙ ap₂ (λ (r : Rule) p. record r { parser = p }) named parser_is) in
    let flag_is : rule_of c.action-desk.result ≡ desk_option = search rules in
    let top_is : app_of c.no_binary_name.result ≡ on_top (λ top. record top { no_binary_name = true }) (new_app (codes "paris_front")) =
    ap app_of_fields c.no_binary_name.ensures ∙ ap (on_top (λ top. record top { no_binary_name = true })) c.new-4.ensures.app in
    IfOk-weaker c.arg-2.result _ _
    (λ command added. command_is c.no_binary_name.result c.in_ok-command.command command c.default_value-workers.result c.action-desk.result c.in_ok-command.ensures added (search rules) (search rules) top_is rule_is flag_is)
    c.arg-2.ensures
