use Rattle.std.proofs.Common.{◌≡◌, ◌+◌, ◌*◌, ◌/◌, ap, ◌∙◌, arith}
use Rattle.mvs_model.specs.Numbers.{page_bytes}
use Rattle.region_raw.specs.Pages.{is_open}
use Rattle.free_queue.proofs.Words.{word_here}
use Rattle.free_queue.proofs.len.Goals as goal

pub word-requires : goal.word-requires
word-requires c = (omega arith, λ k from to. let page : k / page_bytes ≡ c.args.page = omega (arith, c.index.ensures, c.requires.inside, from, to) in ap (is_open c.args.region.now) page ∙ c.requires.there)

pub returns : goal.returns
returns c = c.word.ensures ∙ word_here c.args.region.now c.args.page (c.args.at + 4) (c.index.result + 4) (let place : c.index.result + 4 ≡ page_bytes * c.args.page + (c.args.at + 4) = omega (arith, c.index.ensures) in place)
