-- `follow` makes a `&` to one of the elements that a `&` to the Vec shows. Assumes `Logic`.
use mathlib.Core.Path.{◌≡◌, refl, ap, ◌∙◌}
use Prim.Native.Nat.{◌+◌, ◌*◌, ◌<◌}
use native.Mathlib.Omega.{arith}
use mathlib.Core.List.{List, [], ◌∷◌, ◌++◌}
use lib.ListN.{length, get_or}
use mir.MapTy.{inst_fn}
use mir.Val.{Val, vptr}
use prog.Wp.{WpFn}
use contract.BorrowLft.{◌⊑◌}
use contract.Monad.{fact}
use contract.Running.{tables}
use types.Kit.{‵, raw, ◌⊛◌, prop, at_ret, ◌$◌, ◌∵◌, !, qed, done, move, drop, use1, split, fsplit, fjoin, feq_i, feq_l, flt_l, regoal, suffices}
use types.Run.{enter, of_opd, addr, stop, first, blocks, exec, returns}
use types.ByLocal.{alloc_all, pass_all, free_all, look_at, get, sets, sets_last, through, env}
use denote.Builtin.{RawPtr, RefOf, usize}
use denote.Exit.{yes}
use denote.Memory.{shared_of}
use denote.Opens.{hide}
use denote.RattleType.{owns}
use denote.RawPtr.{at_block, ptr_val, block_ptr, block_of, count_of}
use denote.Signature.{Slot, plain, types_at}
use denote.Steps.{heard, nothing}
use denote.Triple.Entry.{alive}
use denote.Triple.Walked.{Stays, walk_of, says, stay_dropped, Goes-dropped, ends_at}
use Rattle.std.proofs.raw_atomic.Walks.{proved_at}
use Rattle.core.specs.Mem.{type_size}
use Rattle.core.proofs.ptr.Rows.{hd}
use Rattle.core.proofs.slice.Lists.{any-default}
use Rattle.std_alloc.proofs.VecSteps.El.{El, R, Vr, args}
use Rattle.std_alloc.proofs.VecSteps.Shapes.{after}
use Rattle.bg_openlist.proofs.Blocks.{block_seen, element_seen, leads}
use Rattle.bg_openlist.specs.Places.{LeadsTo}
use Rattle.bg_openlist.specs.contracts.pointers.follow as f
use Rattle.bg_openlist.proofs.pointers.follow.Statement.{statement}
use Rattle.bg_openlist.proofs.pointers.follow.Code as code

pub follow_spec : {M : Type 1} → statement M
follow_spec 𝓤 𝓛 𝓜 𝓡 wired X B LX LB g d dd met md =
    let E : El = record { row = X; laws = LX; al = record { row = B; laws = LB; g = g; d = d; drops = dd } } in
    let T = f.ended X B g d dd in
    let S = T.signature in
    let block : Slot 3 = RefOf (0 ∷ []) tt (plain (λ _. Vr E)) (λ _. tt) in
    let ptr : Slot 3 = plain (λ _. RawPtr) in
    let index : Slot 3 = plain (λ _. usize) in
    let stayed : Stays S.params T.kept = (stay_dropped block yes, (stay_dropped ptr yes, (stay_dropped index yes, tt))) in
    let c = f.clauses X B g d dd 𝓛 𝓜.mem 𝓡.returns in
    let W = walk_of 𝓛 T stayed c in
    let 𝓣 = tables 𝓤 𝓛.H 𝓜 𝓡 𝓡.env in
    let function = inst_fn (args E) code.function in
    proved_at 𝓛 T stayed c 𝓜 𝓡 (Goes-dropped 𝓛 3 block yes (λ κs x w. refl), (Goes-dropped 𝓛 3 ptr yes (λ κs x w. refl), (Goes-dropped 𝓛 3 index yes (λ κs x w. refl), tt)))
    (f.Key.name (args E)) function (code.unfolded 𝓤 𝓛.H 𝓜 𝓡 wired (X, (B, tt)) d dd) (λ y are.
    let κs = y.0.0 in let a = y.0.3 in let v = a.0.now in let p = a.1.0 in let i = a.1.1.0 in let s = type_size (R E) in
    let within : i < v.len → i < length v.items = λ lt. omega (arith, v.ok.0) in
    qed 𝓛 ((raw (alive 𝓛 S κs y.0.1) ⊛ ‵ (owns (types_at S.params κs) a y.0.4))
    ∷ (raw (fact 𝓤 (κs.1.0 ⊑ X.lives)) ⊛ raw (fact 𝓤 (κs.1.1.0 ⊑ B.lives)) ⊛ raw (fact 𝓤 (LeadsTo s v p i))) ∷ []) ∵
    move ! (1 ∷ []) $ split ! $ drop ! $ split ! $ drop ! $ heard ! _ (λ asked.
    split ! $ move ! (1 ∷ []) $ fsplit ! $ fsplit ! $ feq_l ! (λ is_block. move ! (1 ∷ []) $ fsplit ! $ feq_l ! (λ is_ptr. fsplit ! $ fsplit ! $ feq_l ! (λ is_index. flt_l ! (λ small. drop ! $
    block_seen E ! κs.0 v a.0.ref_ptr.0 a.0.ref_ptr.1 (λ placed fits.
    let b = block_of v.ptr in let o = i * s + count_of v.ptr in
    let first_item = hd v.items (omega (arith, within asked.0)) in let item = get_or v.items i first_item in
    let there : p ≡ block_ptr b o = leads p v.ptr b (count_of v.ptr) (i * s) asked.1 (at_block v.ptr placed) in
    -- [a `&` to the element; the tokens]
    use1 𝓛 (‵ (shared_of (R E) item b o κs.0)) (element_seen 𝓛 (R E) κs.0 b v.items i first_item (count_of v.ptr) o (within asked.0) refl) $ hide ! $
    regoal ! (λ (ws : List Val × List Val × List Val). prop (WpFn 𝓤 𝓛.H 𝓣.C 𝓣.Λ function (ws.0 ++ (ws.1 ++ (ws.2 ++ []))) (W.post y)))
    (λ j. (is_block j, (is_ptr ∙ ap (λ q. ptr_val q ∷ []) there) j, is_index j)) refl $
    enter ! _ _ _ _ _ $ alloc_all ! (λ l. pass_all ! refl ((tt, tt), ((tt, tt), ((tt, record { fits = small }), tt))) $
    first ! $ blocks ! $
    sets_last ! (addr ! (through ! refl (stop !))) refl (tt, tt) $
    exec ! 𝓣.C 𝓣.Λ (env function.locals l) (after 1 function.body) (at_ret _ (W.post y)) $
    sets ! (of_opd ! (get ! refl)) refl (tt, tt) $
    feq_i ! (List Val) (vptr b o ∷ []) (vptr b o ∷ []) refl $ fjoin ! $
    returns ! (look_at ! 0 refl) $ free_all ! refl $
    suffices ! _ (ends_at 𝓛 T stayed c y (vptr b o) (record { ref_ptr = (b, o); now = item }) (tt, (tt, (tt, tt))) (tt, (tt, (tt, tt)))) $
    says ! (any-default v.items i first_item item (within asked.0)) $
    nothing ! $ nothing ! $ fjoin ! $ nothing ! $ fjoin ! $ nothing ! $ fjoin ! $ move ! (2 ∷ []) $ done !))))))))
