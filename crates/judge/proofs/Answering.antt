-- What a list may be answered, and a text that begins so.
use Rattle.std.proofs.Common.{◌≡◌, ◌⊎◌, ℕ, Bool, true, false, List, [], ◌++◌, append_assoc, append-nil, codes, drop, length, inl, inr, refl, sym, ap, ◌∙◌}
use Rattle.std.specs.Prelude.{◌||◌}
use Rattle.mvs_model.specs.declared.name.Name.{Name}
use Rattle.mvs_model.specs.Answers.{Abended, Answer, Rc0, Rc4}
use Rattle.mvs_model.specs.declared.code.Family.{Family}
use Rattle.mvs_model.specs.declared.code.Family.TheVariants.{E, Located, R}
use Rattle.mvs_model.specs.Codes.{short}
use Rattle.mvs_model.specs.Texts.{answer_text, code_text, reply_line}
use Rattle.std.specs.List.{flat_map}
use Rattle.mvs_model.specs.Name.{trimmed}
use Rattle.judge.specs.Deciding.{BeginsBy}
use Rattle.judge.specs.Judging.{AnswersList, BeginsAnswered}

pub begun : (text printed front : List ℕ) (b : Bool) → printed ≡ front → (b ≡ true → text ≡ printed ++ drop (length printed) text) → ((rest : List ℕ) → text ≡ printed ++ rest → b ≡ true) → BeginsBy text front b
begun text printed front b e begins other = ((λ t. (drop (length printed) text, begins t ∙ ap (λ x. x ++ drop (length printed) text) e)), (λ more is. other more (is ∙ ap (λ x. x ++ more) (sym e))))

pub or_true : (a b : Bool) → b ≡ true → (a || b) ≡ true
or_true true b e = refl
or_true false b e = e

pub or_front : (a b : Bool) → a ≡ true → (a || b) ≡ true
or_front true b e = refl
or_front false b e = absurd (let f : false ≡ true = e in cc)

pub or_cases : (a b : Bool) → (a || b) ≡ true → (a ≡ true) ⊎ (b ≡ true)
or_cases true b e = inl refl
or_cases false b e = inr e

-- the tests of the five answers
module _ (number : ℕ) (t : Name) (text : List ℕ) (a b c d e : Bool) (is_a : BeginsBy text (answer_text number t Rc0) a) (is_b : BeginsBy text (answer_text number t Rc4) b) (is_c : BeginsBy text (answer_text number t (Abended (short E) [])) c)
    (is_d : BeginsBy text (answer_text number t (Abended (short R) [])) d) (is_e : BeginsBy text (answer_text number t (Abended (short Located) [])) e) where
  of : (answer : Answer) → AnswersList answer → ((more : List ℕ) × (text ≡ answer_text number t answer ++ more)) → BeginsAnswered number t text
  of answer is (more, front) = (answer, is, more, front)

  pub answered_yes : (a || b || c || d || e) ≡ true → BeginsAnswered number t text
  answered_yes x = elim (or_cases (a || b || c || d) e x) [
    | inr y ↦ of (Abended (short Located) []) (inr (inr (Located, [], refl))) (is_e.0 y)
    | inl y ↦ elim (or_cases (a || b || c) d y) [
      | inr z ↦ of (Abended (short R) []) (inr (inr (R, [], refl))) (is_d.0 z)
      | inl z ↦ elim (or_cases (a || b) c z) [
        | inr u ↦ of (Abended (short E) []) (inr (inr (E, [], refl))) (is_c.0 u)
        | inl u ↦ elim (or_cases a b u) [
          | inr v ↦ of Rc4 (inr (inl refl)) (is_b.0 v)
          | inl v ↦ of Rc0 (inl refl) (is_a.0 v)
        ]
      ]
    ]
  ]

  -- whatever tasks end with it
  alone : (kin : Family) (fallen : List Name) (more : List ℕ) → answer_text number t (Abended (short kin) fallen) ++ more ≡ answer_text number t (Abended (short kin) []) ++ (flat_map (λ x. reply_line number x (codes "ENDED WITH " ++ trimmed t)) fallen ++ more)
  alone kin fallen more =
      let line = reply_line number t (codes "ABEND " ++ code_text (short kin)) in
      let rest = flat_map (λ x. reply_line number x (codes "ENDED WITH " ++ trimmed t)) fallen in
      append_assoc line rest more ∙ ap (λ x. x ++ (rest ++ more)) (sym (append-nil line))

  abends : (kin : Family) (fallen : List Name) (more : List ℕ) → text ≡ answer_text number t (Abended (short kin) []) ++ more → (a || b || c || d || e) ≡ true
  abends E fallen more x = or_front _ e (or_front _ d (or_true (a || b) c (is_c.1 more x)))
  abends R fallen more x = or_front _ e (or_true (a || b || c) d (is_d.1 more x))
  abends Located fallen more x = or_true (a || b || c || d) e (is_e.1 more x)

  pub answered_no : BeginsAnswered number t text → (a || b || c || d || e) ≡ true
  answered_no (answer, inl is, more, x) = or_front _ e (or_front _ d (or_front _ c (or_front a b (is_a.1 more (x ∙ ap (λ y. answer_text number t y ++ more) is)))))
  answered_no (answer, inr (inl is), more, x) = or_front _ e (or_front _ d (or_front _ c (or_true a b (is_b.1 more (x ∙ ap (λ y. answer_text number t y ++ more) is)))))
  answered_no (answer, inr (inr (kin, fallen, is)), more, x) = abends kin fallen _ (x ∙ ap (λ y. answer_text number t y ++ more) is ∙ alone kin fallen more)
