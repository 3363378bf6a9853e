-- `no_block` makes an owner of no bytes, which needs no memory. Assumes `Logic`.
use Rattle.region_raw.proofs.Walks.{◌^◌, [], ◌∷◌, refl, lit<, proved, ftrue, ‵, ◌⊛◌, ◌$◌, ◌∵◌, !, qed, use2, leave, done, fjoin, flt_i, suffices, enter, addr, agg, no_more, and_then, returns, alloc_all, pass_all, free_all, look_at, get, sets, Ptr, block_ptr, from, nothing, Stays, walk_of, says, ends_at, stop}
use Rattle.region_raw.specs.contracts.raw.no_block as f
use Rattle.region_raw.specs.declared.raw.Start.{Start}
use Rattle.region_raw.specs.declared.raw.RawBytes.{RawBytes}
use Rattle.region_raw.specs.declared.raw.Right.{Right}
use denote.Struct.Tuple.{Tuple}
use Rattle.region_raw.proofs.Blocks.{Made, made, made_val}
use Rattle.region_raw.proofs.raw.no_block.Statement.{statement}
use Rattle.region_raw.proofs.raw.no_block.Code as code

abbrev stayed : Stays f.ended.signature.params f.ended.kept
stayed = tt

pub no_block_spec : {M : Type 1} → statement M
no_block_spec 𝓤 𝓛 𝓜 𝓡 wired =
    let c = f.clauses 𝓛 𝓜.mem 𝓡.returns in let W = walk_of 𝓛 f.ended stayed c in
    proved 𝓛 f.ended stayed c 𝓜 𝓡 tt f.Key.name code.function (code.unfolded 𝓤 𝓛.H 𝓜 𝓡 wired) (λ κs. tt) (λ κs. tt) (λ κs qs bounds a g are.
    let y : W.Ghost = ((κs, qs, bounds, a, tt), tt) in
    qed 𝓛 ((‵ ftrue ⊛ ‵ ftrue) ∷ ‵ ftrue ∷ []) ∵ leave ! $ leave ! $
    enter ! _ _ _ _ _ $ alloc_all ! (λ l. pass_all ! refl tt $
    sets ! (agg ! (no_more !)) refl (tt, tt) $
    sets ! (addr ! (from ! (stop !))) refl (tt, tt) $
    sets ! (agg ! (and_then ! (get ! refl) (no_more !))) refl (tt, (tt, tt)) $
    sets ! (agg ! (no_more !)) refl (tt, tt) $
    sets ! (agg ! (no_more !)) refl (tt, tt) $
    sets ! (agg ! (and_then ! (get ! refl) (and_then ! (get ! refl) (and_then ! (get ! refl) (no_more !))))) refl (tt, ((tt, tt), (tt, (tt, tt)))) $
    let p : Ptr = block_ptr (l 1) 0 in let x : Start = record { ptr = p } in let d : RawBytes = record { at = p; bytes = [] } in let r : Right = record { at = p; len = 0 } in
    nothing ! $ nothing ! $ flt_i ! 0 (2 ^ 63) (lit< tt) $ fjoin ! $ use2 𝓛 (‵ ((Tuple Made).own_val (x, d, r) (made_val x ∷ []))) (made 𝓛 x d r) $
    returns ! (look_at ! 0 refl) $ free_all ! refl $
    suffices ! _ (ends_at 𝓛 f.ended stayed c y (made_val x) (x, d, r) tt tt) $ says ! (refl, refl, refl, refl) $
    nothing ! $ nothing ! $ done !))
