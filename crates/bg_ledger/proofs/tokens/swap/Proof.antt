-- The tokens agree, and are set together. Assumes `Logic`.
use Rattle.std.proofs.Common.{ℕ, List, [], ◌∷◌, ◌≡◌, refl, sym}
use mir.Syntax.{named}
use mir.Val.{Val, vunit, vptr}
use base.Fml.{ftrue, flft}
use contract.Running.{tables}
use types.Kit.{‵, ◌⊛◌, given, ◌$◌, ◌∵◌, !, qed, move, keep, drop, split, join, fsplit, fsplit3, fjoin, fjoin3, learn, rewrite, feq_i, suffices, frame}
use types.Run.{unit_lit, of_opd, returns, enter}
use types.ByLocal.{alloc_all, pass_all, free_all, look_at, sets}
use types.Tokens.{name_agree, name_set}
use denote.Builtin.{RefOf}
use denote.Exit.{yes}
use denote.RattleType.{RattleType, owns}
use denote.Ref.{mut_vals, mut_Tells, shr_vals, shr_Tells}
use denote.Signature.{types_at, plain}
use denote.Steps.{nothing, opens, closes}
use denote.Triple.Walked.{Stays, stay_ref, stay_dropped, walk_of, Goes-ref, Goes-dropped, ends_at}
use Rattle.bg_ledger.proofs.Cells.{tells, tells_last}
use Rattle.std.proofs.raw_atomic.Walks.{proved}
use Rattle.bg_ledger.specs.Tokens.{Amounts, amounts_of, coded_amounts, record_owns}
use Rattle.bg_ledger.specs.contracts.holding.Holding as Holding
use Rattle.bg_ledger.specs.contracts.tokens.RecordToken as RecordToken
use Rattle.bg_ledger.specs.contracts.tokens.SeatToken as SeatToken
use Rattle.bg_ledger.specs.contracts.tokens.swap as f
use Rattle.bg_ledger.proofs.tokens.swap.Statement.{statement}
use Rattle.bg_ledger.proofs.tokens.swap.Code as code

abbrev A : RattleType
A = RecordToken.the_row

abbrev B : RattleType
B = SeatToken.the_row

abbrev N : RattleType
N = Holding.the_row

abbrev stayed : Stays f.ended.signature.params f.ended.kept
stayed = (stay_ref (0 ∷ []) tt (plain (λ _. A)), (stay_ref (1 ∷ []) tt (plain (λ _. B)), (stay_dropped (RefOf (2 ∷ []) tt (plain (λ _. N)) (λ _. tt)) yes, tt)))

pub swap_spec : {M : Type 1} → statement M
swap_spec 𝓤 𝓛 𝓜 𝓡 wired =
    let c = f.clauses 𝓛 𝓜.mem 𝓡.returns in let 𝓣 = tables 𝓤 𝓛.H 𝓜 𝓡 𝓡.env in
    proved 𝓛 f.ended stayed c 𝓜 𝓡 (Goes-ref 𝓛 3 0 tt (plain (λ _. A)), (Goes-ref 𝓛 3 1 tt (plain (λ _. B)), (Goes-dropped 𝓛 3 (RefOf (2 ∷ []) tt (plain (λ _. N)) (λ _. tt)) yes (λ κs x w. refl), tt)))
    f.Key.name code.function (code.unfolded 𝓤 𝓛.H 𝓜 𝓡 wired)
    (λ κs. (mut_vals, (mut_vals, (shr_vals, tt))))
    (λ κs. (mut_Tells (named 0) κs.0 A, (mut_Tells (named 1) κs.1.0 B, (shr_Tells (named 2) κs.1.1.0 N, tt))))
    (λ κs qs bounds a gh are.
    let r = a.0 in let s = a.1.0 in let h : A.Denot = r.now in let k : B.Denot = s.now in
    let t = a.1.1.0 in let next : Amounts = amounts_of t.now in
    let u : Val = vptr r.ref_ptr.0 r.ref_ptr.1 in let v : Val = vptr s.ref_ptr.0 s.ref_ptr.1 in let w : Val = vptr t.ref_ptr.0 t.ref_ptr.1 in
    let h' : A.Denot = record { name = h.name; amounts = next } in let k' : B.Denot = record { name = k.name; amounts = next } in
    let y : (walk_of 𝓛 f.ended stayed c).Ghost = ((κs, qs, bounds, a, (u ∷ [], (v ∷ [], (w ∷ [], tt)))), gh) in
    qed 𝓛 (((‵ (flft κs.0 qs.0) ⊛ ‵ (flft κs.1.0 qs.1.0) ⊛ ‵ (flft κs.1.1.0 qs.1.1.0) ⊛ ‵ ftrue) ⊛ ‵ (owns (types_at f.ended.signature.params κs) a y.0.4)) ∷ given (h.name ≡ k.name) (‵ ftrue) ∷ []) ∵
    move ! (1 ∷ []) $ learn ! (λ same. drop ! $ split ! $ split ! $ move ! (1 ∷ []) $ split ! $ move ! (3 ∷ []) $ fsplit ! $ fsplit3 ! $ drop ! $ move ! (2 ∷ []) $ fsplit ! $ fsplit3 ! $ drop ! $
    keep ! (3 ∷ 4 ∷ 7 ∷ 0 ∷ 1 ∷ 5 ∷ 6 ∷ []) $
    enter ! 𝓣.C 𝓣.Λ code.function (u ∷ v ∷ w ∷ []) _ $
    alloc_all ! (λ l. pass_all ! refl ((tt, tt), ((tt, tt), ((tt, tt), tt))) $
    opens ! tt A r.ref_ptr.0 r.ref_ptr.1 (λ cs. move ! (5 ∷ 6 ∷ 7 ∷ []) $ opens ! tt B s.ref_ptr.0 s.ref_ptr.1 (λ ds.
    move ! (1 ∷ []) $ fsplit ! $ move ! (7 ∷ []) $ fsplit ! $ move ! (3 ∷ 1 ∷ []) $
    -- [the seat's half; the record's half; the fields of both; what the two borrows leave]
    rewrite ! 1 (λ (n : ℕ). ‵ (record_owns n h.amounts)) same refl $
    name_agree ! coded_amounts (λ agree. name_set ! tt (coded_amounts.code next) $
    rewrite ! 1 (λ (n : ℕ). ‵ (record_owns n next)) (sym same) refl $
    move ! (2 ∷ 1 ∷ []) $ fjoin ! $ move ! (2 ∷ 1 ∷ []) $ fjoin ! $
    move ! (2 ∷ 0 ∷ 3 ∷ 4 ∷ 5 ∷ []) $ closes ! tt B k' ds s.ref_ptr.0 s.ref_ptr.1 $ move ! (4 ∷ 3 ∷ 5 ∷ 6 ∷ 7 ∷ []) $ closes ! tt A h' cs r.ref_ptr.0 r.ref_ptr.1 $
    sets ! (of_opd ! (unit_lit !)) refl (tt, tt) $ returns ! (look_at ! 0 refl) $ free_all ! refl $
    suffices ! _ (ends_at 𝓛 f.ended stayed c y vunit tt (h', (k', (tt, tt))) (tt, (tt, (tt, tt)))) $
    feq_i ! (List Val) (u ∷ []) (u ∷ []) refl $ fjoin3 ! $ move ! (2 ∷ 3 ∷ []) $ feq_i ! (List Val) (v ∷ []) (v ∷ []) refl $ fjoin3 ! $
    nothing ! $ nothing ! $ fjoin ! $
    move ! (1 ∷ 0 ∷ []) $ fjoin ! $ move ! (1 ∷ 0 ∷ []) $ fjoin ! $
    feq_i ! (List Val) (vunit ∷ []) (vunit ∷ []) refl $ move ! (1 ∷ 0 ∷ []) $ join ! $
    move ! (2 ∷ 3 ∷ []) $ join ! $ move ! (2 ∷ 0 ∷ []) $ join ! $ join ! $ frame ! $
    tells ! (sym agree) $ tells ! (refl, refl) $ tells_last ! (refl, refl)))))))
