-- `follow_mut` lends one element of a Vec, and the Vec follows what is written there. Assumes
-- `Logic`.
use mathlib.Core.Path.{◌≡◌, refl}
use Prim.Native.Nat.{◌+◌, ◌*◌, ◌<◌}
use native.Mathlib.Omega.{arith}
use mathlib.Core.List.{List, [], ◌∷◌, ◌++◌}
use lib.ListN.{length, get_or}
use base.Logic.{emp}
use base.Fml.{GName, fat, flft}
use base.Fraction.{full_share}
use mir.MapTy.{inst_fn}
use mir.Syntax.{named, ty_ptr}
use mir.Val.{Val, vptr}
use prog.Wp.{WpFn}
use contract.BorrowLft.{◌⊑◌}
use contract.Monad.{fact}
use contract.Running.{tables}
use types.Kit.{‵, raw, ◌⊛◌, some, later, prop, at_ret, ◌$◌, ◌∵◌, !, qed, done, await, pick, move, drop, use1, split, join, group, frame, fsplit, fsplit3, fjoin, feq_l, flt_l, rewrite, regoal, suffices}
use types.Run.{enter, of_opd, addr, stop, first, blocks, exec, returns}
use types.ByLocal.{alloc_all, pass_all, free_all, look_at, get, sets, sets_last, through, take_at, give_at, env}
use denote.Builtin.{RawPtr, usize}
use denote.Exit.{yes, no}
use denote.Follow.{follows}
use denote.RattleType.{owns}
use denote.RawPtr.{Ptr, ptr_val, block_ptr}
use denote.Ref.{MutBor, MutRef}
use denote.Signature.{Slot, plain, mut_ref_to, types_at}
use denote.Steps.{heard, nothing}
use denote.Triple.Walked.{Stays, walk_of, says, stay_dropped, Goes-dropped, Goes-spent_ref, ends_at}
use Rattle.std.proofs.raw_atomic.Walks.{proved_at}
use Rattle.core.specs.Mem.{type_size}
use Rattle.core.proofs.ptr.Rows.{hd}
use Rattle.core.proofs.slice.Lists.{any-default}
use Rattle.std_alloc.specs.Vec.{with_item}
use Rattle.std_alloc.proofs.RcSteps.{Ptr-Good}
use Rattle.std_alloc.proofs.VecSteps.El.{El, R, Vr, args}
use Rattle.std_alloc.proofs.VecSteps.Element.{lends}
use Rattle.std_alloc.proofs.VecSteps.Opens.{vec_opens}
use Rattle.std_alloc.proofs.VecSteps.Shapes.{after}
use Rattle.bg_openlist.proofs.Blocks.{leads}
use Rattle.bg_openlist.specs.Places.{LeadsTo}
use Rattle.bg_openlist.specs.contracts.pointers.follow_mut as f
use Rattle.bg_openlist.proofs.pointers.follow_mut.Statement.{statement}
use Rattle.bg_openlist.proofs.pointers.follow_mut.Code as code

pub follow_mut_spec : {M : Type 1} → statement M
follow_mut_spec 𝓤 𝓛 𝓜 𝓡 wired X B LX LB g d dd met md =
    let E : El = record { row = X; laws = LX; al = record { row = B; laws = LB; g = g; d = d; drops = dd } } in
    let T = f.ended X B g d dd in
    let S = T.signature in
    let ptr : Slot 3 = plain (λ _. RawPtr) in
    let index : Slot 3 = plain (λ _. usize) in
    let stayed : Stays S.params T.kept = (stay_dropped (mut_ref_to (0 ∷ []) tt (plain (λ _. Vr E))) no, (stay_dropped ptr yes, (stay_dropped index yes, tt))) in
    let c = f.clauses X B g d dd 𝓛 𝓜.mem 𝓡.returns in
    let W = walk_of 𝓛 T stayed c in
    let 𝓣 = tables 𝓤 𝓛.H 𝓜 𝓡 𝓡.env in
    let function = inst_fn (args E) code.function in
    proved_at 𝓛 T stayed c 𝓜 𝓡 (Goes-spent_ref 𝓛 3 (0 ∷ []) tt (plain (λ _. Vr E)), (Goes-dropped 𝓛 3 ptr yes (λ κs x w. refl), (Goes-dropped 𝓛 3 index yes (λ κs x w. refl), tt)))
    (f.Key.name (args E)) function (code.unfolded 𝓤 𝓛.H 𝓜 𝓡 wired (X, (B, tt)) d dd) (λ y are.
    let κs = y.0.0 in let qs = y.0.1 in let a = y.0.3 in let r = a.0 in let v = r.now in let p = a.1.0 in let i = a.1.1.0 in let s = type_size (R E) in
    let rb = r.ref_ptr.0 in let ro = r.ref_ptr.1 in
    let others = raw (𝓛.A.lft κs.1.0 qs.1.0) ⊛ raw (𝓛.A.lft κs.1.1.0 qs.1.1.0) ⊛ raw (emp 𝓤) in
    qed 𝓛 (((‵ (flft κs.0 qs.0) ⊛ others) ⊛ ‵ (owns (types_at S.params κs) a y.0.4))
    ∷ (raw (fact 𝓤 (κs.1.0 ⊑ X.lives)) ⊛ raw (fact 𝓤 (κs.1.1.0 ⊑ B.lives)) ⊛ raw (fact 𝓤 (LeadsTo s v p i))) ∷ []) ∵
    move ! (1 ∷ []) $ split ! $ drop ! $ split ! $ drop ! $ heard ! _ (λ asked.
    let within : i < length v.items = let lt = asked.0 in omega (arith, v.ok.0) in
    let some_room : 0 < v.cap = let lt = asked.0 in omega (arith, v.ok.1) in
    let first_item = hd v.items (omega (arith, within)) in let item = get_or v.items i first_item in
    split ! $ split ! $ move ! (2 ∷ []) $ fsplit ! $ fsplit3 ! $ feq_l ! (λ is_block. move ! (2 ∷ []) $ fsplit ! $ feq_l ! (λ is_ptr. fsplit ! $ fsplit ! $ feq_l ! (λ is_index. flt_l ! (λ small. drop ! $
    regoal ! (λ (ws : List Val × List Val × List Val). prop (WpFn 𝓤 𝓛.H 𝓣.C 𝓣.Λ function (ws.0 ++ (ws.1 ++ (ws.2 ++ []))) (W.post y))) (λ j. (is_block j, is_ptr j, is_index j)) refl $
    enter ! _ _ _ _ _ $ alloc_all ! (λ l. pass_all ! refl ((tt, tt), (Ptr-Good p, ((tt, record { fits = small }), tt))) $
    vec_opens E ! tt v rb ro some_room (λ b o hv at_b fits_len fits_cap fits.
    let there : p ≡ block_ptr b (i * s + o) = leads p v.ptr b o (i * s) asked.1 at_b in
    take_at ! 2 $ rewrite ! 0 (λ (p : Ptr). ‵ (fat full_share ty_ptr (l 2) 0 (ptr_val p))) there refl $ give_at ! 2 $
    first ! $ blocks ! $
    sets_last ! (addr ! (through ! refl (stop !))) refl (tt, tt) $
    exec ! 𝓣.C 𝓣.Λ (env function.locals l) (after 1 function.body) (at_ret _ (W.post y)) $
    sets ! (of_opd ! (get ! refl)) refl (tt, tt) $
    let lent : GName → MutBor X.Denot = λ γ. record { ref_ptr = (b, i * s + o); ghost_name = γ; now = item } in
    group ! 7 $ use1 𝓛 (later (some (λ (γ : GName). ‵ ((MutRef (named 0) κs.0 (R E)).own_val (lent γ) (vptr b (i * s + o) ∷ []))
    ⊛ ‵ (flft κs.0 qs.0) ⊛ ‵ (follows (Vr E) (R E) r.ghost_name γ (with_item v i)))))
    (lends E 𝓛 κs.0 qs.0 rb ro r.ghost_name v i b o at_b asked.0 fits_len fits_cap fits some_room first_item) $ await ! tt $ pick ! (λ γ. split ! $ move ! (1 ∷ []) $ split ! $
    -- [the token; what the Vec follows; the `&mut` to the element; the other tokens]
    returns ! (look_at ! 0 refl) $ free_all ! refl $
    suffices ! _ (ends_at 𝓛 T stayed c y (vptr b (i * s + o)) (lent γ) (tt, (tt, (tt, tt))) (tt, (tt, (tt, tt)))) $
    move ! (2 ∷ []) $ nothing ! $ nothing ! $ fjoin ! $ nothing ! $ fjoin ! $ nothing ! $ fjoin ! $ join ! $ move ! (1 ∷ 3 ∷ []) $ join ! $ join ! $ frame ! $
    says ! (any-default v.items i first_item item within) $ done !)))))))))
