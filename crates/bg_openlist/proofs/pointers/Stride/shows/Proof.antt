-- `shows` reads no memory: what a `&` to a stride holds is the equation. Assumes `Logic`.
use mathlib.Core.Path.{refl}
use mathlib.Core.List.{List, [], ◌∷◌, ◌++◌}
use base.Fml.{fhide}
use mir.MapTy.{inst_fn}
use mir.Syntax.{Args, a_type}
use mir.Val.{Val, vunit}
use prog.Wp.{WpFn}
use contract.Running.{tables}
use types.Kit.{‵, raw, ◌⊛◌, prop, ◌$◌, ◌∵◌, !, qed, done, move, keep, drop, use1, split, fsplit, fjoin, feq_i, feq_l, regoal, suffices}
use types.Run.{enter, of_opd, unit_lit, returns}
use types.ByLocal.{alloc_all, pass_all, free_all, look_at, sets}
use denote.Builtin.{RawPtr, RefOf}
use denote.Exit.{yes}
use denote.Memory.{hidden_shr}
use denote.Opens.{unhide}
use denote.Param.{param, layouts}
use denote.RattleType.{RattleType, owns}
use denote.RawPtr.{block_ptr}
use denote.Signature.{Slot, plain, types_at}
use denote.Steps.{nothing}
use denote.Struct.Struct.{Struct}
use denote.Struct.Owning.{shape}
use denote.Struct.Lending.{lent_out}
use denote.Triple.Entry.{alive}
use denote.Triple.Walked.{Stays, walk_of, says, stay_dropped, Goes-dropped, ends_at}
use Rattle.std.proofs.raw_atomic.Walks.{proved_at}
use Rattle.core.specs.contracts.marker.PhantomData as marker
use Rattle.bg_openlist.specs.contracts.pointers.Stride as Stride
use Rattle.bg_openlist.specs.contracts.pointers.Stride.shows as f
use Rattle.bg_openlist.proofs.pointers.Stride.shows.Statement.{statement}
use Rattle.bg_openlist.proofs.pointers.Stride.shows.Code as code

pub shows_spec : {M : Type 1} → statement M
shows_spec 𝓤 𝓛 𝓜 𝓡 wired X LX =
    let R : RattleType = param 0 X in
    let T = f.ended X in
    let S = T.signature in
    let self : Slot 2 = RefOf (0 ∷ []) tt (plain (λ _. Stride.the_row R)) (λ _. tt) in
    let stayed : Stays S.params T.kept = (stay_dropped self yes, tt) in
    let c = f.clauses X 𝓛 𝓜.mem 𝓡.returns in
    let W = walk_of 𝓛 T stayed c in
    let 𝓣 = tables 𝓤 𝓛.H 𝓜 𝓡 𝓡.env in
    let args : Args = layouts (a_type ∷ []) (X, tt) in
    proved_at 𝓛 T stayed c 𝓜 𝓡 (Goes-dropped 𝓛 2 self yes (λ κs x w. refl), tt)
    (f.Key.name args) (inst_fn args code.function) (code.unfolded 𝓤 𝓛.H 𝓜 𝓡 wired (X, tt)) (λ y are.
    let κs = y.0.0 in let a = y.0.3 in let s = a.0.now in let b = a.0.ref_ptr.0 in let o = a.0.ref_ptr.1 in
    qed 𝓛 ((raw (alive 𝓛 S κs y.0.1) ⊛ ‵ (owns (types_at S.params κs) a y.0.4)) ∷ raw ((c κs a).requires y.1) ∷ []) ∵
    split ! $ keep ! (1 ∷ 0 ∷ []) $ fsplit ! $ fsplit ! $ feq_l ! (λ is.
    use1 𝓛 (‵ (hidden_shr (Struct (shape (Stride.the_type R))) κs.0 (tt, tt) b o) ⊛ ‵ (fhide (Stride.the_lent R s (block_ptr b o) κs.0)))
    (lent_out 𝓛 (Stride.struct R) (Stride.the_codes R.Denot R.coded (marker.the_row RawPtr).coded) (Stride.the_heap R) (Stride.the_lent R) κs.0 s b o) $
    split ! $ drop ! $ unhide ! $ feq_l ! (λ size. keep ! (1 ∷ []) $
    regoal ! (λ (ws : List Val). prop (WpFn 𝓤 𝓛.H 𝓣.C 𝓣.Λ (inst_fn args code.function) (ws ++ []) (W.post y))) is refl $
    enter ! _ _ _ _ _ $ alloc_all ! (λ l. pass_all ! refl ((tt, tt), tt) $
    sets ! (of_opd ! (unit_lit !)) refl (tt, tt) $
    returns ! (look_at ! 0 refl) $ free_all ! refl $
    suffices ! _ (ends_at 𝓛 T stayed c y vunit tt (tt, tt) (tt, tt)) $ says ! size $
    feq_i ! _ (vunit ∷ []) _ refl $ nothing ! $ nothing ! $ fjoin ! $ move ! (2 ∷ []) $ done !))))
