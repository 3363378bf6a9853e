-- `two` lends a run of bytes to read and another to write. Assumes `Logic`.
use Rattle.region_raw.proofs.Walks.{◌≡◌, ℕ, ◌+◌, List, [], ◌∷◌, length, refl, sym, ◌∙◌, arith, w64, MutBor, proved, full_share, SProp, id⊢, never, emp, Lft, GName, ftrue, fat, flft, named, Val, vstruct, vcons, vnil, fact, fact_i, tables, ‵, raw, ◌⊛◌, some, later, at_ret, ◌$◌, ◌∵◌, !, qed, by, move, keep, use1, split, split3, join, fsplit, fsplit3, fjoin, fpack, feq_i, flt_l, pick, await, rewrite, suffices, frame, group, whole, sub, agg, enter, of_opd, bin, stop, fld, no_more, and_then, first, blocks, exec, returns, alloc_all, pass_all, free_all, look_at, get, get_in, sets, sets_last, take_at, give_at, env, Array, u8, usize, yes, no, follows, layout, uint_vals, uint_Tells, RattleType, Valss, owns, Ptr, in_a_block, Bor, MutRef, mut_vals, mut_Tells, plain, mut_ref_to, MutSlice, ShrSlice, slice_val, nothing, opens, heard, shape, within, tuple_type, Stays, walk_of, says, stay_dropped, Goes-dropped, Goes-spent_ref, ends_at}
use Rattle.region_raw.specs.Rows.{IsApart, IsRun, run}
use Rattle.region_raw.specs.BorrowsRaw.{with_run}
use Rattle.region_raw.specs.Ownership.{owned}
use Rattle.region_raw.specs.contracts.raw.RawBytes.two as f
use Rattle.region_raw.proofs.LendTwo.{BytesRow, Lent, borrows}
use Rattle.region_raw.proofs.Runs.{length-run}
use Rattle.region_raw.proofs.Starts.{StartRow, word, word_tells, good}
use Rattle.region_raw.proofs.raw.RawBytes.two.Statement.{statement}
use Rattle.region_raw.proofs.raw.RawBytes.two.Code as code

abbrev stayed : Stays f.ended.signature.params f.ended.kept
stayed = (stay_dropped (mut_ref_to (0 ∷ []) tt (plain (λ _. BytesRow))) no, (stay_dropped (plain (λ _. StartRow)) yes, (stay_dropped (plain (λ _. usize)) yes, (stay_dropped (plain (λ _. usize)) yes, (stay_dropped (plain (λ _. usize)) yes, tt)))))

abbrev Two : Lft → List RattleType
Two κ = ShrSlice (named 0) κ u8 ∷ MutSlice (named 0) κ u8 ∷ []

pub two_spec : {M : Type 1} → statement M
two_spec 𝓤 𝓛 𝓜 𝓡 wired =
    let c = f.clauses 𝓛 𝓜.mem 𝓡.returns in let W = walk_of 𝓛 f.ended stayed c in let 𝓣 = tables 𝓤 𝓛.H 𝓜 𝓡 𝓡.env in
    let number = Goes-dropped 𝓛 1 (plain (λ _. usize)) yes (λ κs x w. refl) in
    proved 𝓛 f.ended stayed c 𝓜 𝓡 (Goes-spent_ref 𝓛 1 (0 ∷ []) tt (plain (λ _. BytesRow)), (Goes-dropped 𝓛 1 (plain (λ _. StartRow)) yes (λ κs x w. refl), (number, (number, (number, tt)))))
    f.Key.name code.function (code.unfolded 𝓤 𝓛.H 𝓜 𝓡 wired)
    (λ κs. (mut_vals, ((λ x. word x ∷ []), (uint_vals w64, (uint_vals w64, (uint_vals w64, tt))))))
    (λ κs. (mut_Tells (named 0) κs.0 BytesRow, (word_tells, (uint_Tells w64, (uint_Tells w64, (uint_Tells w64, tt))))))
    (λ κs qs bounds a g are.
    let κ = κs.0 in let q = qs.0 in let rb = a.0.ref_ptr.0 in let ro = a.0.ref_ptr.1 in let γ = a.0.ghost_name in let d = a.0.now in let cs = d.bytes in
    let i = a.1.1.0 in let j = a.1.1.1.0 in let n = a.1.1.1.1.0 in let vs = mut_vals a.0 in
    let y : W.Ghost = ((κs, qs, bounds, a, (vs, (word a.1.0 ∷ [], (uint_vals w64 i, (uint_vals w64 j, (uint_vals w64 n, tt)))))), tt) in
    qed 𝓛 (((‵ (flft κ q) ⊛ ‵ ftrue) ⊛ (‵ ((MutRef (named 0) κ BytesRow).own_val a.0 vs) ⊛ ‵ (owns (StartRow ∷ usize ∷ usize ∷ usize ∷ []) a.1 y.0.4.1)))
    ∷ (raw (fact 𝓤 (a.1.0.ptr ≡ d.at)) ⊛ (raw (fact 𝓤 (IsApart i j n)) ⊛ (raw (fact 𝓤 (IsRun cs i n)) ⊛ raw (fact 𝓤 (IsRun cs j n))))) ∷ []) ∵
    split ! $ split ! $ move ! (2 ∷ []) $ split ! $ move ! (4 ∷ []) $ split ! $ heard ! _ (λ same. split ! $ heard ! _ (λ apart. split ! $ heard ! _ (λ source. heard ! _ (λ target. keep ! (0 ∷ 2 ∷ []) $
    enter ! _ _ _ _ _ $ alloc_all ! (λ l. pass_all ! refl ((tt, tt), (good a.1.0.ptr, ((tt, record { fits = are.1.1.0.1 }), ((tt, record { fits = are.1.1.1.0.1 }), ((tt, record { fits = are.1.1.1.1.0.1 }), tt))))) $
    fsplit3 ! $ move ! (1 ∷ 2 ∷ 3 ∷ []) $ opens ! tt BytesRow rb ro (λ us. move ! (1 ∷ []) $ fsplit ! $ move ! (1 ∷ []) $
    in_a_block ! d.at (λ p. owned p cs) (id⊢ 𝓤 (never 𝓤)) (λ b o e. fsplit ! $ flt_l ! (λ small.
    -- [the row; the mark; its cell; the open borrow; obs; auth]
    take_at ! 2 $ rewrite ! 0 (λ (p : Ptr). ‵ (fat full_share (layout StartRow) (l 2) 0 (word (record { ptr = p })))) (same ∙ e) refl $ give_at ! 2 $ first ! $ blocks ! $
    sets ! (bin ! (get_in ! (fld ! refl (stop !)) (sub ! 0 refl (whole !))) (get ! refl) tt) refl (tt, tt) $
    sets ! (agg ! (and_then ! (get ! refl) (and_then ! (get ! refl) (no_more !)))) refl (tt, (tt, (record { fits = are.1.1.1.1.0.1 }, tt))) $
    sets ! (bin ! (get_in ! (fld ! refl (stop !)) (sub ! 0 refl (whole !))) (get ! refl) tt) refl (tt, tt) $
    sets ! (agg ! (and_then ! (get ! refl) (and_then ! (get ! refl) (no_more !)))) refl (tt, (tt, (record { fits = are.1.1.1.1.0.1 }, tt))) $
    sets_last ! (agg ! (and_then ! (get ! refl) (and_then ! (get ! refl) (no_more !)))) refl (tt, ((tt, (record { fits = are.1.1.1.1.0.1 }, tt)), ((tt, (record { fits = are.1.1.1.1.0.1 }, tt)), tt))) $
    exec ! 𝓣.C 𝓣.Λ (env code.Mir.locals l) code.Mir.t-2 (at_ret _ (W.post y)) $
    sets ! (of_opd ! (get ! refl)) refl (tt, ((tt, (record { fits = are.1.1.1.1.0.1 }, tt)), ((tt, (record { fits = are.1.1.1.1.0.1 }, tt)), tt))) $
    let xs = run cs i n in let ys = run cs j n in let long_x = length-run cs i n source in let long_y = length-run cs j n target in
    let at_i : i + o ≡ o + i = omega arith in let at_j : j + o ≡ o + j = omega arith in
    let Ends : GName → SProp 𝓤 = Lent 𝓛 κ q rb ro γ d us b o i j n xs ys e apart source.0 target.0 small source.1 target.1 long_x long_y in
    let first : Bor (List ℕ) = record { ref_ptr = (b, o + i); now = xs } in
    let v : Val = vstruct (vcons (slice_val (b, i + o) n) (vcons (slice_val (b, j + o) n) vnil)) in
    move ! (3 ∷ 4 ∷ 5 ∷ 0 ∷ 1 ∷ 2 ∷ []) $ group ! 6 $
    use1 𝓛 (later (some (λ (δ : GName). raw (Ends δ)))) (borrows 𝓛 κ q rb ro γ d us b o i j n xs ys e apart source.0 target.0 small source.1 target.1 long_x long_y (BytesRow.coded.code d) (BytesRow.coded.code d)) $ await ! tt $ pick ! (λ δ.
    let second : MutBor (List ℕ) = record { ref_ptr = (b, o + j); ghost_name = δ; now = ys } in
    use1 𝓛 (‵ ((ShrSlice (named 0) κ u8).own_val first (slice_val (b, o + i) (length xs) ∷ [])) ⊛ (‵ ((MutSlice (named 0) κ u8).own_val second (slice_val (b, o + j) (length ys) ∷ [])) ⊛ (‵ (flft κ q) ⊛ ‵ (follows BytesRow (Array u8 0) γ δ (with_run d j n))))) (id⊢ 𝓤 _) $ split3 ! $
    nothing ! $ move ! (2 ∷ 0 ∷ []) $ fjoin ! $ move ! (1 ∷ 0 ∷ []) $ fjoin ! $
    feq_i ! (List Val) (v ∷ []) (vstruct (vcons (slice_val (b, o + i) (length xs)) (vcons (slice_val (b, o + j) (length ys)) vnil)) ∷ []) (λ k. vstruct (vcons (slice_val (b, at_i k) (sym long_x k)) (vcons (slice_val (b, at_j k) (sym long_y k)) vnil)) ∷ []) $ fjoin ! $
    fpack ! (Valss (Two κ)) (within (shape (tuple_type (Two κ))) (first, (second, tt)) (v ∷ [])) (slice_val (b, o + i) (length xs) ∷ [], (slice_val (b, o + j) (length ys) ∷ [], tt)) $
    -- [the pair; the token, with what the owner follows]
    returns ! (look_at ! 0 refl) $ free_all ! refl $ keep ! (0 ∷ 1 ∷ []) $ move ! (1 ∷ []) $ split ! $ move ! (2 ∷ 0 ∷ 1 ∷ []) $
    suffices ! _ (ends_at 𝓛 f.ended stayed c y v (first, second) (tt, (tt, (tt, (tt, (tt, tt))))) (tt, (tt, (tt, (tt, (tt, tt)))))) $
    nothing ! $ nothing ! $ fjoin ! $ nothing ! $ fjoin ! $ nothing ! $ fjoin ! $ nothing ! $ fjoin ! $ nothing ! $ fjoin ! $ join ! $ nothing ! $ move ! (2 ∷ 0 ∷ []) $ join ! $ join ! $ frame ! $ frame ! $
    says ! refl $ by ! (fact_i 𝓤 (xs ≡ xs) (emp 𝓤) refl)))))))))))
