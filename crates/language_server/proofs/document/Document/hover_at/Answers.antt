use Rattle.std.proofs.Common.{ap, ◌∙◌}
use Rattle.std.specs.Option.{option_map}
use Rattle.language_server.specs.Hovers.{hover_of}
use Rattle.language_server.proofs.document.Document.hover_at.Goals as goal

pub returns : goal.returns
returns c = record {
  about = option_map (λ t. t.now) c.in_ok-about.about;
  rule = option_map (λ t. t.now) c.rule_text-rule.result;
  report = c.in_ok-report.report.items;
  is_about = (rw c.code_word.ensures at c.in_ok-about.ensures);
  is_rule = (rw c.rule_number.ensures at c.rule_text-rule.ensures);
  is_report = c.in_ok-report.ensures;
  exact = c.in_ok-shown.ensures ∙ ap (hover_of c.args.self.now c.args.spot (option_map (λ t. t.now) c.in_ok-about.about) (option_map (λ t. t.now) c.rule_text-rule.result)) c.deref.ensures.value;
}
