-- The lines of the map, one after another.
use Rattle.std.proofs.Common.{◌≡◌, ◌≢◌, ◌⊎◌, ℕ, zero, suc, ◌+◌, ◌-◌, ◌*◌, ◌<◌, ◌≤◌, ◌++◌, List, [], ◌∷◌, Bool, true, false, cond, inl, inr, Option, None, Some, refl, ap, sym, subst, ◌∙◌, append_assoc, append-nil, ne_eqb, arith}
use Rattle.std.specs.Prelude.{◌==◌}
use Rattle.std.proofs.lemmas.Bool.{cases_lt}
use Rattle.std.proofs.lemmas.Grind.{flat_map-append}
use Rattle.std.specs.List.{flat_map}
use Rattle.std.specs.Option.{option_map, option_and_then}
use Rattle.std.proofs.lemmas.Bool.Decides.{nat_tests}
use Rattle.std.specs.FinMap.{get}
use Rattle.std.specs.Io.KnownBytes.{Appends}
use Rattle.std.proofs.KnownBytes.{Appends-nil, Appends-trans}
use Rattle.mvs_model.specs.declared.name.Name.{Name}
use Rattle.mvs_model.specs.declared.report.MapRun.{MapRun}
use Rattle.mvs_model.specs.Owners.{Owners}
use Rattle.mvs_model.specs.State.{State}
use Rattle.mvs_model.specs.Answers.{Map}
use Rattle.mvs_model.specs.Texts.{reply_line, map_text, answer_text}
use Rattle.mvs_model.specs.Reports.{PageRun, same_subpool, with_page, page_runs, page_subpool, number_of, label_of, map_runs, page_map}
use Rattle.mvs_model.specs.View.{IsBounded}
use Rattle.request_forms.specs.Reports.{Begins, IsHolder, IsMapEnd, IsMapRun, IsPages, NoneBegins}
use Rattle.line_text.specs.Writing.{AppendsFront}
use Rattle.line_text.proofs.Appending.{front_longer, front_more}

-- whether two pages are assigned alike
same_self : (s : Option ℕ) → same_subpool s s ≡ true
same_self None = refl
same_self (Some s) = let e : (s == s) ≡ true = grind (arith, nat_tests) in e

same_other : (r s : Option ℕ) → r ≢ s → same_subpool r s ≡ false
same_other None None h = absurd (h refl)
same_other None (Some s) h = refl
same_other (Some r) None h = refl
same_other (Some r) (Some s) h = ne_eqb r s (λ e. h (ap Some e))

-- a run of so many pages
abbrev run_of : ℕ → Option ℕ → PageRun
run_of n s = record { count = n; subpool = s }

with_same : (s : Option ℕ) (count : ℕ) (runs : List PageRun) → with_page s (run_of count s ∷ runs) ≡ run_of (count + 1) s ∷ runs
with_same s count runs = ap (λ b. cond b (run_of (count + 1) s ∷ runs) (run_of 1 s ∷ run_of count s ∷ runs)) (same_self s)

with_other : (s r : Option ℕ) (count : ℕ) (runs : List PageRun) → s ≢ r → with_page s (run_of count r ∷ runs) ≡ run_of 1 s ∷ run_of count r ∷ runs
with_other s r count runs h = ap (λ b. cond b (run_of (count + 1) s ∷ runs) (run_of 1 s ∷ run_of count r ∷ runs)) (same_other s r h)

-- the first run is of the page in front
head : (s : Option ℕ) (runs : List PageRun) → (count : ℕ) × (more : List PageRun) × (with_page s runs ≡ run_of count s ∷ more)
head s [] = (1, [], refl)
head s (run ∷ runs) = at (same_subpool s run.subpool) where
  at : (b : Bool) → (count : ℕ) × (more : List PageRun) × (cond b (run_of (run.count + 1) s ∷ runs) (run_of 1 s ∷ run ∷ runs) ≡ run_of count s ∷ more)
  at true = (run.count + 1, runs, refl)
  at false = (1, run ∷ runs, refl)

-- the runs of the pages
module _ (st : State) where
  no_pages : (page : ℕ) → page_runs st page zero ≡ []
  unfolding page_runs
  no_pages page = refl

  more_pages : (page n : ℕ) → page_runs st page (suc n) ≡ with_page (page_subpool st page) (page_runs st (page + 1) n)
  unfolding page_runs
  more_pages page n = refl

  lone : (s : Option ℕ) (page n : ℕ) → (0 < n → s ≢ page_subpool st page) → with_page s (page_runs st page n) ≡ run_of 1 s ∷ page_runs st page n
  lone s page zero h = ap (with_page s) (no_pages page) ∙ ap (λ runs. run_of 1 s ∷ runs) (sym (no_pages page))
  lone s page (suc n) h =
      let first = head (page_subpool st page) (page_runs st (page + 1) n) in
      let is = more_pages page n ∙ first.2 in
      ap (with_page s) is ∙ with_other s (page_subpool st page) first.0 first.1 (h (omega arith)) ∙ ap (λ runs. run_of 1 s ∷ runs) (sym is)

  -- pages that are assigned alike are one run
  run_front : (c m n page : ℕ) → n ≡ c + 1 + m → ((p : ℕ) → page ≤ p → p < page + c + 1 → page_subpool st p ≡ page_subpool st page) → (0 < m → page_subpool st (page + c + 1) ≢ page_subpool st page)
      → page_runs st page n ≡ run_of (c + 1) (page_subpool st page) ∷ page_runs st (page + (c + 1)) m
  run_front c m zero page is alike ends = absurd (omega (arith, is))
  run_front zero m (suc n) page is alike ends =
      let rest : n ≡ m = omega (arith, is) in
      let here : page + zero + 1 ≡ page + 1 = omega arith in
      more_pages page n ∙ lone (page_subpool st page) (page + 1) n (λ some e. ends (omega (arith, is, some)) (ap (page_subpool st) here ∙ sym e)) ∙ ap (λ k. run_of 1 (page_subpool st page) ∷ page_runs st (page + 1) k) rest
  run_front (suc c) m (suc n) page is alike ends =
      let one : page_subpool st (page + 1) ≡ page_subpool st page = alike (page + 1) (omega arith) (omega arith) in
      let there : page + suc c + 1 ≡ page + 1 + c + 1 = omega arith in
      let count : c + 1 + 1 ≡ suc c + 1 = omega arith in
      let at : page + 1 + (c + 1) ≡ page + (suc c + 1) = omega arith in
      let rest = run_front c m n (page + 1) (omega (arith, is)) (λ p low high. alike p (omega (arith, low)) (omega (arith, high)) ∙ sym one) (λ some e. ends some (ap (page_subpool st) there ∙ e ∙ one)) in
      more_pages page n ∙ ap (with_page (page_subpool st page)) (rest ∙ (λ i. run_of (c + 1) (one i) ∷ page_runs st (page + 1 + (c + 1)) m)) ∙ with_same (page_subpool st page) (c + 1) (page_runs st (page + 1 + (c + 1)) m)
      ∙ (λ i. run_of (count i) (page_subpool st page) ∷ page_runs st (at i) m)

-- what pages are assigned to
holder_is : (o : Owners) (owner : Option ℕ) (label : Option (ℕ × Name)) → IsHolder o owner label → label ≡ label_of o owner
holder_is o None None is = refl
holder_is o None (Some l) (s, e, owned, named) = absurd (let f : None ≡ Some s = e in cc)
holder_is o (Some r) None is = sym (ap (option_and_then (λ t. option_map (λ n. (n, t)) (number_of o t r))) is)
holder_is o (Some r) (Some l) (s, e, owned, named) =
    let same : s ≡ r = cc in
    let owner : get o.owner r ≡ Some l.1 = ap (get o.owner) (sym same) ∙ owned in
    let number = subst (λ x. number_of o l.1 x ≡ Some l.0) same named in
    sym (ap (option_and_then (λ t. option_map (λ n. (n, t)) (number_of o t r))) owner ∙ ap (option_map (λ n. (n, l.1))) number)

-- So many pages of a region are left, and a run begins at the first of them.
pub record IsAt (st : State) (first end page n : ℕ) : Type 0 where
  pub low : first ≤ page
  pub all : page + n ≡ end
  pub begins : 0 < n → Begins (page_subpool st) first page

-- a region from its first page on
whole : (st : State) (first n : ℕ) → IsAt st first (first + n) first n
whole st first n = record { low = omega arith; all = refl; begins = λ some less. absurd (omega (arith, less)) }

-- no run begins in the pages that are left, where there are none
none_left : (st : State) (first end page n from : ℕ) → from ≤ 4096 * page → IsAt st first end page n → NoneBegins (page_subpool st) first from end → n ≡ 0
none_left st first end page n from trailing at none =
    elim (cases_lt 0 n) [
      | inl some ↦ (let g = none page at.low trailing (omega (arith, some, at.all)) in absurd (at.begins some g.0 g.1))
      | inr over ↦ (let e : n ≡ 0 = omega (arith, over) in e)
    ]

-- the next run begins where the pages that are left begin
found : (st : State) (first end page n from at count : ℕ) → from ≤ 4096 * page → page ≤ at → IsAt st first end page n → IsPages (page_subpool st) first end at count → NoneBegins (page_subpool st) first from at → at ≡ page
found st first end page n from at count trailing low is pages none =
    elim (cases_lt page at) [
      | inl less ↦ (let g = none page is.low trailing less in absurd (is.begins (omega (arith, less, is.all, pages.ends.low, pages.ends.high)) g.0 g.1))
      | inr over ↦ (let e : at ≡ page = omega (arith, over, low) in e)
    ]

module _ (number : ℕ) (st : State) (t : Name) where
  -- the lines of so many pages from one on
  abbrev pub runs_text : ℕ → ℕ → List ℕ
  runs_text page n = flat_map (λ r. reply_line number t (map_text r)) (map_runs st.owners (4096 * page) (page_runs st page n))

  -- the line of a run
  abbrev pub run_text : MapRun → List ℕ
  run_text run = reply_line number t (map_text run)

  no_text : (page n : ℕ) → n ≡ 0 → runs_text page n ≡ []
  no_text page n is = ap (λ k. runs_text page k) is ∙ ap (λ runs. flat_map run_text (map_runs st.owners (4096 * page) runs)) (no_pages st page)

  -- one run, and what is left after it
  one_run : (first end page n count : ℕ) (run : MapRun) → IsAt st first end page n → IsPages (page_subpool st) first end page count → run.addr ≡ 4096 * page → run.len ≡ 4096 * count → IsHolder st.owners (page_subpool st page) run.holder
      → (m : ℕ) × IsAt st first end (page + count) m × (runs_text page n ≡ run_text run ++ runs_text (page + count) m)
  one_run first end page n count run at pages addr len holder =
      let count_is : count - 1 + 1 ≡ count = omega (arith, pages.ends.low) in
      let trailing : page + (count - 1) + 1 ≡ page + count = omega (arith, pages.ends.low) in
      let all : n ≡ count - 1 + 1 + (n - count) = omega (arith, at.all, pages.ends.low, pages.ends.high) in
      let dist : 4096 * page + 4096 * count ≡ 4096 * (page + count) = omega arith in
      let runs = run_front st (count - 1) (n - count) n page all (λ p low high. pages.ends.alike p low (omega (arith, high, pages.ends.low)))
      (λ some e. pages.ends.ends (omega (arith, some, at.all)) (ap (page_subpool st) (sym trailing) ∙ e)) in (
        n - count,
        record {
          low = omega (arith, at.low);
          all = omega (arith, at.all, pages.ends.high);
          begins = λ some less e. pages.ends.ends (omega (arith, some, at.all)) (sym e ∙ pages.ends.alike (page + count - 1) (omega (arith, pages.ends.low)) (omega (arith, pages.ends.low)));
        },
        ap (λ runs. flat_map run_text (map_runs st.owners (4096 * page) runs)) (runs ∙ (λ i. run_of (count_is i) (page_subpool st page) ∷ page_runs st (page + count_is i) (n - count)))
            ∙ (λ i. run_text (let r : MapRun = record { addr = sym addr i; len = sym len i; holder = sym (holder_is st.owners (page_subpool st page) run.holder holder) i } in r) ++ flat_map run_text (map_runs st.owners (dist i) (page_runs st (page + count) (n - count)))),
      )

  -- What is left of the map at an address: a run begins there, or it is the end of a region.
  abbrev pub IsLeft : ℕ → List ℕ → Type 0
  IsLeft from rest =
      (page : ℕ) × (n : ℕ) × (from ≡ 4096 * page)
      × ((IsAt st 6 (6 + st.regions.below) page n × (rest ≡ runs_text page n ++ runs_text 4096 st.regions.above)) ⊎ (IsAt st 4096 (4096 + st.regions.above) page n × (rest ≡ runs_text page n)))

  -- the whole map
  abbrev pub map_printed : List ℕ
  map_printed = answer_text number t (Map (page_map st))

  left_start : IsLeft 0x6000 map_printed
  left_start = (6, st.regions.below, refl, inl (whole st 6 st.regions.below, flat_map-append run_text (map_runs st.owners 0x6000 (page_runs st 6 st.regions.below)) (map_runs st.owners 0x1000000 (page_runs st 4096 st.regions.above))))

  -- a run, and what is left after it
  abbrev Nexts : MapRun → List ℕ → Type 0
  Nexts run rest = (more : List ℕ) × (rest ≡ run_text run ++ more) × IsLeft (run.addr + run.len) more

  next_below : (from page n : ℕ) (rest : List ℕ) (run : MapRun) (is : IsMapRun st from run) → from ≡ 4096 * page → IsAt st 6 (6 + st.regions.below) page n → rest ≡ runs_text page n ++ runs_text 4096 st.regions.above
      → IsPages (page_subpool st) 6 (6 + st.regions.below) is.page is.count → NoneBegins (page_subpool st) 6 from is.page → Nexts run rest
  next_below from page n rest run is from_is at rest_is pages none =
      let same = found st 6 (6 + st.regions.below) page n from is.page is.count (omega (arith, from_is)) (omega (arith, from_is, is.after, is.addr)) at pages none in
      let one = one_run 6 (6 + st.regions.below) page n is.count run at (subst (λ p. IsPages (page_subpool st) 6 (6 + st.regions.below) p is.count) same pages) (is.addr ∙ ap (λ p. 4096 * p) same) is.len
      (subst (λ p. IsHolder st.owners (page_subpool st p) run.holder) same is.holder) in (
        runs_text (page + is.count) one.0 ++ runs_text 4096 st.regions.above,
        rest_is ∙ ap (λ z. z ++ runs_text 4096 st.regions.above) one.2 ∙ append_assoc (run_text run) (runs_text (page + is.count) one.0) (runs_text 4096 st.regions.above),
        (page + is.count, one.0, (let e : run.addr + run.len ≡ 4096 * (page + is.count) = omega (arith, is.addr, is.len, same) in e), inl (one.1, refl)),
      )

  next_above : (from page n : ℕ) (rest : List ℕ) (run : MapRun) (is : IsMapRun st from run) → from ≤ 4096 * page → page ≤ is.page → IsAt st 4096 (4096 + st.regions.above) page n → rest ≡ runs_text page n
      → IsPages (page_subpool st) 4096 (4096 + st.regions.above) is.page is.count → NoneBegins (page_subpool st) 4096 from is.page → Nexts run rest
  next_above from page n rest run is trailing low at rest_is pages none =
      let same = found st 4096 (4096 + st.regions.above) page n from is.page is.count trailing low at pages none in
      let one = one_run 4096 (4096 + st.regions.above) page n is.count run at (subst (λ p. IsPages (page_subpool st) 4096 (4096 + st.regions.above) p is.count) same pages) (is.addr ∙ ap (λ p. 4096 * p) same) is.len
      (subst (λ p. IsHolder st.owners (page_subpool st p) run.holder) same is.holder) in (
        runs_text (page + is.count) one.0,
        rest_is ∙ one.2,
        (page + is.count, one.0, (let e : run.addr + run.len ≡ 4096 * (page + is.count) = omega (arith, is.addr, is.len, same) in e), inr (one.1, refl)),
      )

  left_next : (from : ℕ) (rest : List ℕ) (run : MapRun) → IsBounded st.regions → IsLeft from rest → IsMapRun st from run → Nexts run rest
  left_next from rest run bounded (page, n, from_is, inl (at, rest_is)) is =
      elim is.placed [
        | inl here ↦ next_below from page n rest run is from_is at rest_is here.0 here.1
        | inr there ↦ (
            let none = none_left st 6 (6 + st.regions.below) page n from (omega (arith, from_is)) at there.0 in
            let only = rest_is ∙ ap (λ z. z ++ runs_text 4096 st.regions.above) (no_text page n none) in
            next_above from 4096 st.regions.above rest run is (omega (arith, from_is, at.all, bounded.below)) there.1.low (whole st 4096 st.regions.above) only there.1 there.2
            )
      ]
  left_next from rest run bounded (page, n, from_is, inr (at, rest_is)) is =
      elim is.placed [
        | inl here ↦ absurd (omega (arith, from_is, at.low, is.after, is.addr, here.0.ends.low, here.0.ends.high, bounded.below))
        | inr there ↦ next_above from page n rest run is (omega (arith, from_is)) (omega (arith, from_is, is.after, is.addr)) at rest_is there.1 there.2
      ]

  -- nothing is left
  left_none : (from : ℕ) (rest : List ℕ) → IsBounded st.regions → IsLeft from rest → IsMapEnd st from → rest ≡ []
  left_none from rest bounded (page, n, from_is, inl (at, rest_is)) (lower, upper) =
      let none = none_left st 6 (6 + st.regions.below) page n from (omega (arith, from_is)) at lower in
      let more = none_left st 4096 (4096 + st.regions.above) 4096 st.regions.above from (omega (arith, from_is, at.all, bounded.below)) (whole st 4096 st.regions.above) upper in
      rest_is ∙ ap (λ z. z ++ runs_text 4096 st.regions.above) (no_text page n none) ∙ no_text 4096 st.regions.above more
  left_none from rest bounded (page, n, from_is, inr (at, rest_is)) (lower, upper) =
      let none = none_left st 4096 (4096 + st.regions.above) page n from (omega (arith, from_is)) at upper in
      rest_is ∙ no_text page n none

  -- What was printed so far, and what is left of the map.
  abbrev pub SoFar : Option (List ℕ) → Option (List ℕ) → ℕ → Type 0
  SoFar a b from = (front : List ℕ) × (rest : List ℕ) × Appends a b front × (front ++ rest ≡ map_printed) × IsLeft from rest

  pub map_start : (a : Option (List ℕ)) (from : ℕ) → from ≡ 0x6000 → SoFar a a from
  map_start a from is = ([], map_printed, Appends-nil a, refl, subst (λ x. IsLeft x (map_printed)) (sym is) left_start)

  pub map_more : (a b c : Option (List ℕ)) (from after : ℕ) (run : MapRun) → IsBounded st.regions → SoFar a b from → IsMapRun st from run → after ≡ run.addr + run.len → Appends b c (run_text run) → SoFar a c after
  map_more a b c from after run bounded (front, rest, so_far, all, left) is after_is p =
      let next = left_next from rest run bounded left is in (
        front ++ run_text run,
        next.0,
        Appends-trans a b c front (run_text run) so_far p,
        append_assoc front (run_text run) next.0 ∙ ap (λ z. front ++ z) (sym next.1) ∙ all,
        subst (λ x. IsLeft x next.0) (sym after_is) next.2,
      )

  pub map_front : (a b c : Option (List ℕ)) (from : ℕ) (run : MapRun) → IsBounded st.regions → SoFar a b from → IsMapRun st from run → AppendsFront b c (run_text run) → AppendsFront a c (map_printed)
  map_front a b c from run bounded (front, rest, so_far, all, left) is p =
      let next = left_next from rest run bounded left is in
      subst (AppendsFront a c) (append_assoc front (run_text run) next.0 ∙ ap (λ z. front ++ z) (sym next.1) ∙ all) (front_longer a c (front ++ run_text run) next.0 (front_more a b c front (run_text run) so_far p))

  pub map_done : (a b : Option (List ℕ)) (from : ℕ) → IsBounded st.regions → SoFar a b from → IsMapEnd st from → Appends a b (map_printed)
  map_done a b from bounded (front, rest, so_far, all, left) is = subst (Appends a b) (sym (append-nil front) ∙ ap (λ z. front ++ z) (sym (left_none from rest bounded left is)) ∙ all) so_far
