-- A row whose blank bytes are those of a row of pages is one of pages.
use Rattle.std.proofs.Common.{◌≡◌, ℕ, zero, suc, List, [], ◌∷◌, ◌++◌, map, length, replicate, Option, Some, None, refl, ap, ◌∙◌, is_some}
use Rattle.region_raw.specs.Pages.{Pages, spread, ArePages}

abbrev Marks : List (Option ℕ) → List (Option ℕ) → Type 0
Marks cs ds = map is_some cs ≡ map is_some ds

strip_blank : (k : ℕ) (cs rest : List (Option ℕ)) → Marks cs (replicate k None ++ rest) → (ds : List (Option ℕ)) × (cs ≡ replicate k None ++ ds) × Marks ds rest
strip_blank zero cs rest e = (cs, refl, e)
strip_blank (suc k) [] rest e = absurd cc
strip_blank (suc k) (Some x ∷ cs) rest e = absurd cc
strip_blank (suc k) (None ∷ cs) rest e =
    let tail : map is_some cs ≡ map is_some (replicate k None ++ rest) = cc in
    let on = strip_blank k cs rest tail in (on.0, ap (λ l. None ∷ l) on.1, on.2)

strip_bytes : (bs : List ℕ) (cs rest : List (Option ℕ)) → Marks cs (map Some bs ++ rest) → (xs : List ℕ) × (length xs ≡ length bs) × ((ds : List (Option ℕ)) × (cs ≡ map Some xs ++ ds) × Marks ds rest)
strip_bytes [] cs rest e = ([], refl, (cs, refl, e))
strip_bytes (b ∷ bs) [] rest e = absurd cc
strip_bytes (b ∷ bs) (None ∷ cs) rest e = absurd cc
strip_bytes (b ∷ bs) (Some x ∷ cs) rest e =
    let tail : map is_some cs ≡ map is_some (map Some bs ++ rest) = cc in
    let on = strip_bytes bs cs rest tail in (x ∷ on.0, ap suc on.1, (on.2.0, ap (λ l. Some x ∷ l) on.2.1, on.2.2))

pub repaged : (size : ℕ) (ps : Pages) (cs : List (Option ℕ)) → ArePages size ps → Marks cs (spread size ps) → (qs : Pages) × ArePages size qs × (length qs ≡ length ps) × (cs ≡ spread size qs)
repaged size [] [] are e = ([], tt, refl, refl)
repaged size [] (c ∷ cs) are e = absurd cc
repaged size (None ∷ ps) cs are e =
    let one = strip_blank size cs (spread size ps) e in let on = repaged size ps one.0 are one.2 in
    (None ∷ on.0, on.1, ap suc on.2, one.1 ∙ ap (λ l. replicate size None ++ l) on.3)
repaged size (Some bs ∷ ps) cs are e =
    let one = strip_bytes bs cs (spread size ps) e in let on = repaged size ps one.2.0 are.1 one.2.2 in
    (Some one.0 ∷ on.0, (one.1 ∙ are.0, on.1), ap suc on.2, one.2.1 ∙ ap (λ l. map Some one.0 ++ l) on.3)
