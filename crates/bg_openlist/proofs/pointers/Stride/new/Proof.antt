-- `new` writes down the size of a cell, of which the machine has nothing. Assumes `Logic`.
use mathlib.Core.Path.{refl}
use Prim.Native.Nat.{ℕ}
use mathlib.Core.List.{List, [], ◌∷◌}
use mir.MapTy.{inst_fn}
use mir.Syntax.{Args, a_type}
use mir.Val.{Val, vstruct, vcons, vnil}
use types.Kit.{‵, raw, ◌⊛◌, ◌$◌, ◌∵◌, !, qed, done, move, keep, split, fjoin, fpack, feq_i, suffices}
use types.Part.{agg}
use types.Run.{enter, and_then, no_more, returns}
use types.ByLocal.{alloc_all, pass_all, free_all, look_at, get, sets}
use denote.Builtin.{RawPtr}
use denote.Param.{param, layouts}
use denote.RattleType.{RattleType, Valss, owns}
use denote.Signature.{types_at}
use denote.Steps.{nothing}
use denote.Struct.Struct.{within}
use denote.Struct.Owning.{shape}
use denote.Struct.Declared as Declared
use denote.Triple.Entry.{alive}
use denote.Triple.Walked.{Stays, says, ends_at}
use Rattle.std.proofs.raw_atomic.Walks.{proved_at}
use Rattle.core.specs.Mem.{type_size}
use Rattle.core.specs.contracts.marker.PhantomData as marker
use Rattle.bg_openlist.specs.declared.pointers.Stride.{Stride as Value}
use Rattle.bg_openlist.specs.contracts.pointers.Stride as Stride
use Rattle.bg_openlist.specs.contracts.pointers.Stride.new as f
use Rattle.bg_openlist.proofs.pointers.Stride.new.Statement.{statement}
use Rattle.bg_openlist.proofs.pointers.Stride.new.Code as code

-- a struct of one field, which has none
abbrev mark : Val
mark = vstruct (vcons (vstruct vnil) vnil)

pub new_spec : {M : Type 1} → statement M
new_spec 𝓤 𝓛 𝓜 𝓡 wired X LX =
    let R : RattleType = param 0 X in
    let T = f.ended X in
    let S = T.signature in
    let stayed : Stays S.params T.kept = tt in
    let c = f.clauses X 𝓛 𝓜.mem 𝓡.returns in
    let args : Args = layouts (a_type ∷ []) (X, tt) in
    let empty = Declared.shape (marker.the_type RawPtr) in
    let fields = shape (Stride.the_type R) in
    let made : Value R.Denot = record { mark = record {}; bytes = type_size R } in
    proved_at 𝓛 T stayed c 𝓜 𝓡 tt
    (f.Key.name args) (inst_fn args code.function) (code.unfolded 𝓤 𝓛.H 𝓜 𝓡 wired (X, tt)) (λ y are.
    let κs = y.0.0 in
    qed 𝓛 ((raw (alive 𝓛 S κs y.0.1) ⊛ ‵ (owns (types_at S.params κs) y.0.3 y.0.4)) ∷ raw ((c κs y.0.3).requires y.1) ∷ []) ∵
    split ! $ keep ! (0 ∷ []) $
    enter ! _ _ _ _ _ $ alloc_all ! (λ l. pass_all ! refl tt $
    sets ! (agg ! (no_more !)) refl (tt, tt) $ sets ! (agg ! (and_then ! (get ! refl) (no_more !))) refl (tt, (tt, tt)) $
    returns ! (look_at ! 0 refl) $ free_all ! refl $
    suffices ! _ (ends_at 𝓛 T stayed c y mark made tt tt) $ says ! refl $
    -- [the equation; the mark; nothing; the tokens]
    nothing ! $ nothing ! $ nothing ! $
    feq_i ! (List Val) (vstruct vnil ∷ []) (vstruct vnil ∷ []) refl $ fjoin ! $ fpack ! (Valss []) (within empty tt (vstruct vnil ∷ [])) tt $ fjoin ! $
    feq_i ! (List Val) (mark ∷ []) (mark ∷ []) refl $ fjoin ! $ fpack ! (Valss fields.fields) (within fields (tt, tt) (mark ∷ [])) (vstruct vnil ∷ [], tt) $
    feq_i ! ℕ (type_size R) (type_size R) refl $ move ! (1 ∷ 0 ∷ []) $ fjoin ! $
    move ! (2 ∷ 1 ∷ []) $ done !))
