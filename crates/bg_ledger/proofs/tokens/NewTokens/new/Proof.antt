-- `new` makes the cells. Assumes `Logic`.
use Rattle.std.proofs.Common.{List, ℕ, [], ◌∷◌, refl}
use types.Kit.{‵, raw, ◌⊛◌, some, later, ◌$◌, ◌∵◌, !, qed, move, keep, split, fjoin, fpick, pick, use0, await, suffices, done}
use types.Part.{agg}
use types.Run.{enter, returns, no_more}
use types.ByLocal.{alloc_all, pass_all, free_all, look_at, sets}
use denote.RattleType.{owns}
use denote.Signature.{types_at}
use denote.Steps.{nothing}
use denote.Triple.Entry.{alive}
use denote.Triple.Walked.{says, Stays, ends_at}
use Rattle.std.proofs.raw_atomic.Walks.{proved_at}
use Rattle.bg_ledger.proofs.Cells.{Named, begins, none, none_made}
use Rattle.bg_ledger.specs.contracts.tokens.NewTokens as NewTokens
use Rattle.bg_ledger.specs.contracts.tokens.NewTokens.new as f
use Rattle.bg_ledger.proofs.tokens.NewTokens.new.Statement.{statement}
use Rattle.bg_ledger.proofs.tokens.NewTokens.new.Code as code

abbrev stayed : Stays f.ended.signature.params f.ended.kept
stayed = tt

pub new_spec : {M : Type 1} → statement M
new_spec 𝓤 𝓛 𝓜 𝓡 wired =
    let c = f.clauses 𝓛 𝓜.mem 𝓡.returns in
    proved_at 𝓛 f.ended stayed c 𝓜 𝓡 tt
    f.Key.name code.function (code.unfolded 𝓤 𝓛.H 𝓜 𝓡 wired) (λ y are.
    qed 𝓛 ((raw (alive 𝓛 f.ended.signature y.0.0 y.0.1) ⊛ ‵ (owns (types_at f.ended.signature.params y.0.0) y.0.3 y.0.4)) ∷ raw ((c y.0.0 y.0.3).requires y.1) ∷ []) ∵
    split ! $ keep ! (0 ∷ []) $
    enter ! _ _ _ _ _ $ alloc_all ! (λ l. pass_all ! refl tt $
    use0 𝓛 (later (some (λ (names : List ℕ). ‵ (Named 2048 names)))) (begins 𝓛 2048) $ await ! tt $ pick ! (λ names. fpick ! (λ count.
    let made : NewTokens.the_row.Denot = record { names = names } in
    sets ! (agg ! (no_more !)) refl (tt, tt) $
    none_made ! $ fjoin ! $
    returns ! (look_at ! 0 refl) $ free_all ! refl $
    suffices ! _ (ends_at 𝓛 f.ended stayed c y none made tt tt) $ says ! count $
    nothing ! $ move ! (2 ∷ 0 ∷ 1 ∷ []) $ done !))))
