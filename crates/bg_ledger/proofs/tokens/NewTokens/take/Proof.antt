-- The first cell leaves the row. Assumes `Logic`.
use Rattle.std.proofs.Common.{ℕ, List, [], ◌∷◌, ◌++◌, ◌<◌, length, get_or, drop, refl}
use mir.Syntax.{named}
use mir.Val.{Val, vptr, vstruct, vcons, vnil, of_list}
use base.Fml.{ftrue, fsep, feq, flft}
use contract.Running.{tables}
use types.Kit.{‵, ◌⊛◌, given, ◌$◌, ◌∵◌, !, qed, move, keep, drop as let_go, split, join, fsplit, fsplit3, fjoin, fjoin3, fpack, learn, rewrite, feq_i, suffices, frame}
use types.Run.{no_more, and_then, returns, enter}
use types.Part.{agg}
use types.ByLocal.{alloc_all, pass_all, free_all, look_at, get, sets}
use denote.RattleType.{RattleType, owns, Valss}
use denote.Ref.{mut_vals, mut_Tells}
use denote.Signature.{types_at, plain}
use denote.Steps.{nothing, opens, closes}
use denote.Triple.Walked.{Stays, stay_ref, walk_of, Goes-ref, ends_at}
use Rattle.std.proofs.raw_atomic.Walks.{proved}
use Rattle.bg_ledger.proofs.Cells.{none, none_made, parted, tells, tells_last}
use Rattle.bg_ledger.specs.Tokens.{all_own, zero as nothing_yet}
use Rattle.bg_ledger.specs.contracts.tokens.RecordToken as RecordToken
use Rattle.bg_ledger.specs.contracts.tokens.SeatToken as SeatToken
use Rattle.bg_ledger.specs.contracts.tokens.NewTokens as NewTokens
use Rattle.bg_ledger.specs.contracts.tokens.NewTokens.take as f
use Rattle.bg_ledger.proofs.tokens.NewTokens.take.Statement.{statement}
use Rattle.bg_ledger.proofs.tokens.NewTokens.take.Code as code

abbrev R : RattleType
R = NewTokens.the_row

abbrev A : RattleType
A = RecordToken.the_row

abbrev B : RattleType
B = SeatToken.the_row

abbrev stayed : Stays f.ended.signature.params f.ended.kept
stayed = (stay_ref (0 ∷ []) tt (plain (λ _. R)), tt)

pub take_spec : {M : Type 1} → statement M
take_spec 𝓤 𝓛 𝓜 𝓡 wired =
    let c = f.clauses 𝓛 𝓜.mem 𝓡.returns in let 𝓣 = tables 𝓤 𝓛.H 𝓜 𝓡 𝓡.env in
    proved 𝓛 f.ended stayed c 𝓜 𝓡 (Goes-ref 𝓛 1 0 tt (plain (λ _. R)), tt)
    f.Key.name code.function (code.unfolded 𝓤 𝓛.H 𝓜 𝓡 wired)
    (λ κs. (mut_vals, tt)) (λ κs. (mut_Tells (named 0) κs.0 R, tt)) (λ κs qs bounds a gh are.
    let r = a.0 in let h : R.Denot = r.now in let b : ℕ = r.ref_ptr.0 in let o : ℕ = r.ref_ptr.1 in
    let first : ℕ = get_or h.names 0 0 in let rest : List ℕ = drop 1 h.names in let h' : R.Denot = record { names = rest } in
    let own : A.Denot = record { name = first; amounts = nothing_yet } in let seat : B.Denot = record { name = first; amounts = nothing_yet } in
    let v : Val = vstruct (vcons none (vcons none vnil)) in
    let y : (walk_of 𝓛 f.ended stayed c).Ghost = ((κs, qs, bounds, a, (vptr b o ∷ [], tt)), gh) in
    qed 𝓛 (((‵ (flft κs.0 qs.0) ⊛ ‵ ftrue) ⊛ ‵ (owns (types_at f.ended.signature.params κs) a y.0.4)) ∷ given (0 < length h.names) (‵ ftrue) ∷ []) ∵
    move ! (1 ∷ []) $ learn ! (λ some. let_go ! $ split ! $ split ! $ move ! (2 ∷ []) $ fsplit ! $ fsplit3 ! $ keep ! (1 ∷ 2 ∷ 4 ∷ []) $
    enter ! 𝓣.C 𝓣.Λ code.function (vptr b o ∷ []) _ $ alloc_all ! (λ l. pass_all ! refl ((tt, tt), tt) $
    opens ! tt R b o (λ ts. move ! (1 ∷ []) $ fsplit ! $ move ! (1 ∷ []) $
    rewrite ! 0 (λ (ns : List ℕ). ‵ (all_own ns)) (parted h.names some) refl $ fsplit ! $ fsplit ! $
    -- [the seat's half; the record's half; the other cells; the fields; what the borrow leaves]
    move ! (3 ∷ 2 ∷ []) $ fjoin ! $ move ! (3 ∷ 0 ∷ 4 ∷ 5 ∷ 6 ∷ []) $ closes ! tt R h' ts b o $
    feq_i ! (List Val) (vptr b o ∷ []) (vptr b o ∷ []) refl $ fjoin3 ! $ nothing ! $ move ! (1 ∷ 0 ∷ []) $ fjoin ! $ nothing ! $ move ! (2 ∷ 0 ∷ []) $ join ! $
    -- [the tokens' lifetimes; self; the seat's half; the record's half]
    move ! (2 ∷ []) $ none_made ! $ fjoin ! $ move ! (3 ∷ []) $ none_made ! $ fjoin ! $
    nothing ! $ move ! (1 ∷ 2 ∷ 0 ∷ []) $ fjoin3 ! $ feq_i ! (List Val) (v ∷ []) (v ∷ []) refl $ fjoin ! $
    fpack ! (Valss (A ∷ B ∷ [])) (λ vss. fsep (feq (List Val) (v ∷ []) (vstruct (of_list (vss.0 ++ (vss.1.0 ++ []))) ∷ [])) (owns (A ∷ B ∷ []) (own, (seat, tt)) vss)) (none ∷ [], (none ∷ [], tt)) $
    sets ! (agg ! (no_more !)) refl (tt, tt) $ sets ! (agg ! (no_more !)) refl (tt, tt) $
    sets ! (agg ! (and_then ! (get ! refl) (and_then ! (get ! refl) (no_more !)))) refl (tt, (tt, (tt, tt))) $
    returns ! (look_at ! 0 refl) $ free_all ! refl $
    suffices ! _ (ends_at 𝓛 f.ended stayed c y v (own, seat) (h', tt) (tt, tt)) $
    move ! (2 ∷ 0 ∷ []) $ join ! $ move ! (1 ∷ 0 ∷ []) $ join ! $ frame ! $
    tells ! (refl, refl) $ tells ! (refl, refl) $ tells_last ! refl))))
