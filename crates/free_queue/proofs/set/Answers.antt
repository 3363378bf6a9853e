use Rattle.std.proofs.Common.{◌≡◌, ◌+◌, ◌/◌, ap, ◌∙◌, arith}
use Rattle.mvs_model.specs.Numbers.{page_bytes}
use Rattle.region_raw.specs.Pages.{is_open}
use Rattle.free_queue.proofs.Words.{put_reads, two_keeps, two_next, two_same}
use Rattle.free_queue.proofs.set.Goals as goal

pub put_word-requires : goal.put_word-requires
put_word-requires c = (omega arith, λ k from to. let page : k / page_bytes ≡ c.args.page = omega (arith, c.index.ensures, c.requires.inside, from, to) in ap (is_open c.args.region.now) page ∙ c.requires.there)

pub put_word-requires-2 : goal.put_word-requires-2
put_word-requires-2 c = (omega arith, λ k from to. let page : k / page_bytes ≡ c.args.page = omega (arith, c.index-2.ensures, c.requires.inside, from, to) in ap (is_open c.put_word.new.self) page ∙ c.put_word.ensures.writes.pages c.args.page ∙ c.requires.there)

pub returns-clause-next : goal.returns-clause-next
returns-clause-next c = two_next c.args.region.now c.put_word.new.self c.put_word-2.new.self c.args.page c.args.at c.index.result c.index-2.result c.args.next c.args.n c.index.ensures c.index-2.ensures c.requires.inside c.put_word.ensures.writes c.put_word-2.ensures.writes c.requires.there (omega arith)

pub returns-clause-len : goal.returns-clause-len
returns-clause-len c = put_reads c.put_word.new.self c.put_word-2.new.self c.args.page (c.args.at + 4) c.index-2.result c.args.n c.index-2.ensures (omega (arith, c.requires.inside)) (c.put_word.ensures.writes.pages c.args.page ∙ c.requires.there) (omega arith) c.put_word-2.ensures.writes

pub returns-clause-same : goal.returns-clause-same
returns-clause-same c = two_same c.args.region.now c.put_word.new.self c.put_word-2.new.self c.args.page c.args.at c.index.result c.index-2.result c.args.next c.args.n c.index.ensures c.index-2.ensures c.requires.inside c.put_word.ensures.writes c.put_word-2.ensures.writes c.requires.whole

pub returns-clause-keeps : goal.returns-clause-keeps
returns-clause-keeps c = two_keeps c.args.region.now c.put_word.new.self c.put_word-2.new.self c.args.page c.args.at c.index.result c.index-2.result c.args.next c.args.n c.index.ensures c.index-2.ensures c.requires.inside c.put_word.ensures.writes c.put_word-2.ensures.writes
