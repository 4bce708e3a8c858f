-- `is_placed` reads no memory: what a `&` to a Vec holds says both facts. Assumes `Logic`.
use mathlib.Core.Path.{refl}
use mathlib.Core.List.{List, [], ◌∷◌, ◌++◌}
use mir.MapTy.{inst_fn}
use mir.Val.{Val, vunit}
use prog.Wp.{WpFn}
use contract.Running.{tables}
use types.Kit.{‵, raw, ◌⊛◌, ◌$◌, ◌∵◌, !, qed, done, move, keep, split, fsplit, fjoin, feq_i, feq_l, suffices, prop, regoal}
use types.Run.{enter, of_opd, unit_lit, returns}
use types.ByLocal.{alloc_all, pass_all, free_all, look_at, sets}
use denote.Exit.{yes}
use denote.RattleType.{owns}
use denote.Steps.{nothing}
use denote.Signature.{Slot, plain, types_at}
use denote.Builtin.{RefOf}
use denote.Triple.Entry.{alive}
use denote.Triple.Walked.{Stays, walk_of, says, stay_dropped, Goes-dropped, ends_at}
use Rattle.std.proofs.raw_atomic.Walks.{proved_at}
use Rattle.std_alloc.proofs.VecSteps.El.{El, Vr, args}
use Rattle.bg_openlist.proofs.Blocks.{block_seen}
use Rattle.bg_openlist.specs.contracts.pointers.is_placed as f
use Rattle.bg_openlist.proofs.pointers.is_placed.Statement.{statement}
use Rattle.bg_openlist.proofs.pointers.is_placed.Code as code

pub is_placed_spec : {M : Type 1} → statement M
is_placed_spec 𝓤 𝓛 𝓜 𝓡 wired X B LX LB g d dd met md =
    let E : El = record { row = X; laws = LX; al = record { row = B; laws = LB; g = g; d = d; drops = dd } } in
    let T = f.ended X B g d dd in
    let S = T.signature in
    let block : Slot 3 = RefOf (0 ∷ []) tt (plain (λ _. Vr E)) (λ _. tt) in
    let stayed : Stays S.params T.kept = (stay_dropped block yes, tt) in
    let c = f.clauses X B g d dd 𝓛 𝓜.mem 𝓡.returns in
    let W = walk_of 𝓛 T stayed c in
    let 𝓣 = tables 𝓤 𝓛.H 𝓜 𝓡 𝓡.env in
    proved_at 𝓛 T stayed c 𝓜 𝓡 (Goes-dropped 𝓛 3 block yes (λ κs x w. refl), tt)
    (f.Key.name (args E)) (inst_fn (args E) code.function) (code.unfolded 𝓤 𝓛.H 𝓜 𝓡 wired (X, (B, tt)) d dd) (λ y are.
    let κs = y.0.0 in let a = y.0.3 in let v = a.0.now in
    qed 𝓛 ((raw (alive 𝓛 S κs y.0.1) ⊛ ‵ (owns (types_at S.params κs) a y.0.4)) ∷ raw ((c κs a).requires y.1) ∷ []) ∵
    split ! $ keep ! (1 ∷ 0 ∷ []) $ fsplit ! $ fsplit ! $ feq_l ! (λ is. move ! (0 ∷ []) $
    block_seen E ! κs.0 v a.0.ref_ptr.0 a.0.ref_ptr.1 (λ placed fits. keep ! (2 ∷ []) $
    regoal ! (λ (ws : List Val). prop (WpFn 𝓤 𝓛.H 𝓣.C 𝓣.Λ (inst_fn (args E) code.function) (ws ++ []) (W.post y))) is refl $
    enter ! _ _ _ _ _ $ alloc_all ! (λ l. pass_all ! refl ((tt, tt), tt) $
    sets ! (of_opd ! (unit_lit !)) refl (tt, tt) $
    returns ! (look_at ! 0 refl) $ free_all ! refl $
    suffices ! _ (ends_at 𝓛 T stayed c y vunit tt (tt, tt) (tt, tt)) $ says ! (placed, fits) $
    feq_i ! _ (vunit ∷ []) _ refl $ nothing ! $ nothing ! $ fjoin ! $ move ! (2 ∷ []) $ done !))))
