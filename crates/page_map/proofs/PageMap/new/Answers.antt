use Rattle.std.proofs.Common.{◌≡◌, ap, ◌∙◌, replicate, rules}
use Rattle.page_map.specs.Codes.{page_owners}
use Rattle.page_map.proofs.Decoding.{all_free}
use Rattle.page_map.proofs.PageMap.new.Goals as goal

pub returns-clause-free : goal.returns-clause-free
returns-clause-free c =
    let free : c.in_ok-owners.owners.items ≡ replicate c.args.pages 65535 = search rules in
    ap page_owners free ∙ all_free c.args.pages
