-- What the reports say of the store and the tasks.
use Rattle.std.proofs.Common.{◌≡◌, ℕ, true, ◌+◌, ◌-◌, ◌*◌, ◌/◌, ◌<◌, ◌≤◌, Option, Some, None, sym, ap, subst, inl, inr, ◌⊎◌, ◌∙◌, arith, MatchOption}
use Rattle.std.specs.Option.{option_and_then}
use Rattle.std.specs.FinMap.{FinMap, get}
use Rattle.mvs_model.specs.declared.name.Name.{Name}
use Rattle.mvs_model.specs.declared.report.SubpoolLine.{SubpoolLine}
use Rattle.mvs_model.specs.declared.report.MapRun.{MapRun}
use Rattle.mvs_model.specs.Finite.{has}
use Rattle.mvs_model.specs.Consistent.{OwnersConsistent}
use Rattle.mvs_model.specs.Storage.{Storage, holder, IsStorage, held_bytes}
use Rattle.mvs_model.specs.Owners.{Owners, entry, owns}
use Rattle.mvs_model.specs.Name.{name_cmp}
use Rattle.cell_pool.specs.Agree.{Agree}
use Rattle.cell_pool.specs.Roots.{Root, pools_of}
use Rattle.cell_pool.proofs.Tallied.{splits_bytes}
use Rattle.mvs_model.specs.Reports.{bytes_held, first_from, page_subpool}
use Rattle.mvs_model.proofs.Seen.{same_holder}
use Rattle.mvs_model.proofs.SeenReports.{number_kept}
use Rattle.request_forms.specs.Machine.{IsStepStorage, machine_state}
use Rattle.request_forms.specs.Reports.{HasNone, IsHolder, IsMapEnd, IsMapRun, IsPages, IsSubpoolLine, NoneBegins, page_holder}

-- the owners of the pages, in the state
pub pages_seen : (roots : FinMap name_cmp Root) (st : Storage) (o : Owners) → IsStorage st → page_holder st ≡ page_subpool (machine_state roots st o)
pages_seen roots st o is = λ i page. first_from (512 * page) 512 (sym (same_holder st o (pools_of roots st) is) i)

-- the label of a subpool is that of the pages that are assigned to it
pub label_is : (o : Owners) (owner : Option ℕ) (s : ℕ) (label : Option (ℕ × Name)) → OwnersConsistent o → owner ≡ Some s
    → MatchOption label (get o.owner s ≡ None) (λ r. (get o.owner s ≡ Some r.1) × (entry o r.1 r.0 ≡ Some s)) → IsHolder o owner label
label_is o owner s None kept is none = ap (λ v. option_and_then (λ x. get o.owner x) v) is ∙ none
label_is o owner s (Some r) kept is (owned, has) = (s, is, owned, number_kept o r.1 r.0 s kept has)

-- what is held in parts of pools is not more than all that is held
pub pool_fits : (roots : FinMap name_cmp Root) (st : Storage) (s : ℕ) (o : Owners) (pool all : ℕ) → Agree roots st → pool ≡ bytes_held (machine_state roots st o) s true → all ≡ held_bytes st s → pool ≤ all
pool_fits roots st s o pool all agree some most = omega (arith, some, most, splits_bytes roots st s o agree)

-- a line of the first number that the task has
pub line_is : (roots : FinMap name_cmp Root) (st : Storage) (o : Owners) (u t : Name) (from number s : ℕ) (line : SubpoolLine) → Agree roots st → u ≡ t → from ≤ number → number < 133 → HasNone o u from number → entry o u number ≡ Some s
    → line.number ≡ number → line.owned ≡ has (owns o u) (entry o u number) → line.pool ≡ bytes_held (machine_state roots st o) s true → line.plain ≡ held_bytes st s - line.pool → IsSubpoolLine (machine_state roots st o) t from line
line_is roots st o u t from number s line agree name after low none entered number_is owned pool plain = record {
  after = subst (λ n. from ≤ n) (sym number_is) after;
  low = subst (λ n. n < 133) (sym number_is) low;
  first = subst (λ n. HasNone o t from n) (sym number_is) (subst (λ x. HasNone o x from number) name none);
  subpool = s;
  has = ap (λ n. entry o t n) number_is ∙ ap (λ x. entry o x number) (sym name) ∙ entered;
  owned = owned ∙ ap (has (owns o u)) entered ∙ ap (λ x. owns o x s) name;
  plain = omega (arith, plain, pool, splits_bytes roots st s o agree);
  pool = pool;
}

none_from : (owner : ℕ → Option ℕ) (first at from end : ℕ) → at ≡ (from + 4095) / 4096 → NoneBegins owner first (4096 * at) end → NoneBegins owner first from end
none_from owner first at from end is h p low after high = h p low (omega (arith, is, after)) high

-- a run of the map in one of the regions, or none
module _ (roots : FinMap name_cmp Root) (st : Storage) (o : Owners) (is : IsStepStorage st) (from at below : ℕ) (first_page : at ≡ (from + 4095) / 4096) (below_is : below ≡ st.regions.below) where
  pub run_below : (page count : ℕ) (run : MapRun) → IsPages (page_holder st) 6 (6 + below) page count → at ≤ page → NoneBegins (page_holder st) 6 (4096 * at) page
      → run.addr ≡ 4096 * page → run.len ≡ 4096 * count → IsHolder o (page_holder st page) run.holder → IsMapRun (machine_state roots st o) from run
  run_below page count run pages after none addr len holder = record {
    page = page;
    count = count;
    addr = addr;
    len = len;
    after = omega (arith, addr, after, first_page);
    placed = subst (λ owner. (IsPages owner 6 (6 + st.regions.below) page count × NoneBegins owner 6 from page) ⊎ (NoneBegins owner 6 from (6 + st.regions.below) × IsPages owner 4096 (4096 + st.regions.above) page count × NoneBegins owner 4096 from page))
        (pages_seen roots st o is.storage) (inl (subst (λ b. IsPages (page_holder st) 6 (6 + b) page count) below_is pages, none_from (page_holder st) 6 at from page first_page none));
    end = omega (arith, addr, len, pages.ends.high, below_is, is.bounded.below);
    holder = subst (λ (owner : ℕ → Option ℕ). IsHolder o (owner page) run.holder) (pages_seen roots st o is.storage) holder;
  }

  pub run_above : (above page count : ℕ) (run : MapRun) → above ≡ st.regions.above → NoneBegins (page_holder st) 6 (4096 * at) (6 + below) → IsPages (page_holder st) 4096 (4096 + above) page count → at ≤ page
      → NoneBegins (page_holder st) 4096 (4096 * at) page → run.addr ≡ 4096 * page → run.len ≡ 4096 * count → IsHolder o (page_holder st page) run.holder → IsMapRun (machine_state roots st o) from run
  run_above above page count run above_is lower pages after none addr len holder = record {
    page = page;
    count = count;
    addr = addr;
    len = len;
    after = omega (arith, addr, after, first_page);
    placed = subst (λ owner. (IsPages owner 6 (6 + st.regions.below) page count × NoneBegins owner 6 from page) ⊎ (NoneBegins owner 6 from (6 + st.regions.below) × IsPages owner 4096 (4096 + st.regions.above) page count × NoneBegins owner 4096 from page))
        (pages_seen roots st o is.storage)
        (inr (
          subst (λ b. NoneBegins (page_holder st) 6 from (6 + b)) below_is (none_from (page_holder st) 6 at from (6 + below) first_page lower),
          subst (λ b. IsPages (page_holder st) 4096 (4096 + b) page count) above_is pages,
          none_from (page_holder st) 4096 at from page first_page none,
        ));
    end = omega (arith, addr, len, pages.ends.high, above_is, is.bounded.above);
    holder = subst (λ (owner : ℕ → Option ℕ). IsHolder o (owner page) run.holder) (pages_seen roots st o is.storage) holder;
  }

  pub no_run : (above : ℕ) → above ≡ st.regions.above → NoneBegins (page_holder st) 6 (4096 * at) (6 + below) → NoneBegins (page_holder st) 4096 (4096 * at) (4096 + above) → IsMapEnd (machine_state roots st o) from
  no_run above above_is lower upper =
      subst (λ owner. NoneBegins owner 6 from (6 + st.regions.below) × NoneBegins owner 4096 from (4096 + st.regions.above)) (pages_seen roots st o is.storage) (
        subst (λ b. NoneBegins (page_holder st) 6 from (6 + b)) below_is (none_from (page_holder st) 6 at from (6 + below) first_page lower),
        subst (λ b. NoneBegins (page_holder st) 4096 from (4096 + b)) above_is (none_from (page_holder st) 4096 at from (4096 + above) first_page upper),
      )

-- the label of the subpool of a page
pub page_label : (roots : FinMap name_cmp Root) (st : Storage) (o : Owners) (page : ℕ) (owner : Option ℕ) (label : Option (ℕ × Name)) → IsStorage st → owner ≡ page_holder st page → IsHolder o owner label → IsHolder o (page_subpool (machine_state roots st o) page) label
page_label roots st o page owner label is owner_is h =
    subst (λ (of_page : ℕ → Option ℕ). IsHolder o (of_page page) label) (pages_seen roots st o is) (subst (λ v. IsHolder o v label) owner_is h)
