use Rattle.std.proofs.Common.{◌≡◌, rules}
use Rattle.std.proofs.lemmas.List.Sorted.{IsNonDecreasingBy-from_sort_by_key, answers_always}
use Rattle.language_server.specs.Notes.{start_of}
use Rattle.language_server.proofs.Hovering.{on_ok}
use Rattle.language_server.proofs.notes.sort.Goals as goal

pub returns : goal.returns
returns c =
    on_ok c.sort_by_key.result
    (λ sorted. record {
      same = c.sort_by_key.ensures.permutation;
      order = IsNonDecreasingBy-from_sort_by_key start_of _ sorted (λ a r q k. search rules);
      stable = c.sort_by_key.ensures.stable start_of (answers_always _ (λ a r. r ≡ start_of a.0.now) _ (λ f a r q k. search rules));
    })
    c.sort_by_key.ensures.sorted
