use Rattle.std.proofs.Common.{◌≡◌, ◌≤◌, ◌+◌, ◌*◌, ◌/◌, sym, inl, inr, refl, arith, ap, ◌∙◌}
use Rattle.std.proofs.lemmas.Bool.{cases_lt}
use Rattle.mvs_model.specs.Storage.{is_one_of}
use Rattle.mvs_model.proofs.SubpoolSets.{in_set, none_before, none_in_words, in_word, none_past}
use Rattle.mvs_model.proofs.subpool_set.SubpoolSet.first_from.Goals as goal

pub new-requires : goal.new-requires
new-requires c =
    let e = c.in-Some.ensures in
    c.self.invariant _ (sym (in_set c.self.inside.words c.args.self.now c.self.view_is _) ∙ in_word c.self.inside.words c.args.self.now c.self.view_is c.words.at (c.words.at / 64 * 64) c.in-Some.bit refl e.1 e.2)

pub returns-in-Some : goal.returns-in-Some
returns-in-Some c =
    let e = c.in-Some.ensures in
    let at : c.new.result ≡ c.words.at / 64 * 64 + c.in-Some.bit = c.new.ensures in
    let after : c.args.from ≤ c.words.at = c.words.invariant.after in (
      omega (arith, at, e.0),
      ap (is_one_of c.args.self.now) at ∙ in_word c.self.inside.words c.args.self.now c.self.view_is c.words.at (c.words.at / 64 * 64) c.in-Some.bit refl e.1 e.2,
      λ s low high. elim (cases_lt s c.words.at) [
        | inl before ↦ c.words.invariant.skipped s low before
        | inr from ↦ none_before c.self.inside.words c.args.self.now c.self.view_is c.words.at (c.words.at / 64 * 64) c.in-Some.bit refl e.1 e.3 s from (omega (arith, at))
      ],
    )

pub words-preserved : goal.words-preserved
words-preserved c = record {
  after = let low : c.args.from ≤ c.words.at = c.words.invariant.after in omega arith;
  skipped = λ s low high. elim (cases_lt s c.words.at) [
    | inl before ↦ c.words.invariant.skipped s low before
    | inr from ↦ none_in_words c.self.inside.words c.args.self.now c.self.view_is c.words.at c.first_word-at.result c.in_default.ensures c.first_word-at.ensures.clear s from high
  ];
}

pub returns : goal.returns
returns c = λ s low. elim (cases_lt s c.words.at) [
  | inl before ↦ c.words.invariant.skipped s low before
  | inr from ↦ none_past c.self.inside.words c.args.self.now c.self.view_is s (omega arith)
]
