-- A body that is fed pieces.
use Rattle.std.proofs.Common.{◌≡◌, ℕ, zero, suc, ◌==◌, List, [], ◌++◌, refl, ap, sym, ◌∙◌, append_assoc, subst, true, IsFalse}
use Rattle.std.proofs.lemmas.List.{append-nil}
use Rattle.std.proofs.lemmas.Bool.{eqb-true}
use Rattle.bg_http_read.specs.declared.body.Body.{Body}
use Rattle.bg_http_read.specs.declared.body.BodyStage.{BodyStage}
use Rattle.bg_http_read.specs.declared.body.BodyStage.TheVariants as stage
use Rattle.bg_http_read.specs.Bodies.{ReadsOn, Reads, Fails, Takes, Follows, is_whole, can_end}
use Rattle.bg_http_read.specs.BodyFaults.{cut}

pub follows_itself : (body : Body) (bytes : List ℕ) → Follows body bytes body bytes
follows_itself body bytes = record {
  read = λ more b rest h. h;
  fails = λ failure more h. h;
  ends = λ e. e;
}

-- a state that follows another one follows those before it too
pub follows_both : (one other next : Body) (first bytes now : List ℕ)
    → Follows one first other bytes → Follows other bytes next now → Follows one first next now
follows_both one other next first bytes now h k = record {
  read = λ more b rest r. h.read more b rest (k.read more b rest r);
  fails = λ failure more r. h.fails failure more (k.fails failure more r);
  ends = λ to_end. h.ends (k.ends to_end);
}

-- the same after more bytes came
pub follows_behind : (one other : Body) (first bytes more : List ℕ)
    → Follows one first other bytes → Follows one (first ++ more) other (bytes ++ more)
follows_behind one other first bytes more h = record {
  read = λ later b rest r.
      subst (λ l. Reads one l b rest) (sym (append_assoc first more later))
      (h.read (more ++ later) b rest
      (subst (λ l. Reads other l b rest) (append_assoc bytes more later) r));
  fails = λ failure later r.
      subst (Fails one failure) (sym (append_assoc first more later))
      (h.fails failure (more ++ later)
      (subst (Fails other failure) (append_assoc bytes more later) r));
  ends = λ to_end. h.ends to_end;
}

-- if no more bytes are taken and the body is not complete, the input of the first state is cut off
pub wants_first : (one other next : Body) (first bytes : List ℕ) (count : ℕ)
    → Follows one first other bytes → Takes other next bytes count → count ≡ 0
    → IsFalse (can_end next.stage) → Fails one cut first
wants_first one other next first bytes count h t none wanting =
    subst (Fails one cut) (append-nil first)
    (h.fails cut [] (subst (Fails other cut) (sym (append-nil bytes)) (t.1.wants none wanting)))

-- if the body is complete, the input that is left is the rest
pub whole_reads : (s : BodyStage) (done input : List ℕ) → is_whole s ≡ true → ReadsOn s done input done input
whole_reads (stage.Length left) done input h = record {
  bytes = [];
  size_is = sym (is_zero left h);
  input_is = refl;
  body_is = sym (append-nil done);
}
  where
    is_zero : (n : ℕ) → (n == 0) ≡ true → n ≡ 0
    is_zero zero h = refl
    is_zero (suc n) h = eqb-true (suc n) 0 h
whole_reads stage.Line done input h = cc
whole_reads (stage.Data left) done input h = cc
whole_reads stage.Trailers done input h = cc
whole_reads stage.ToTheEnd done input h = cc
whole_reads stage.Whole done input h = (refl, refl)

pub end_reads : (s : BodyStage) (done input : List ℕ) → can_end s ≡ true → (s ≡ stage.ToTheEnd → input ≡ [])
    → ReadsOn s done input done input
end_reads (stage.Length left) done input h e = whole_reads (stage.Length left) done input h
end_reads stage.Line done input h e = cc
end_reads (stage.Data left) done input h e = cc
end_reads stage.Trailers done input h e = cc
end_reads stage.ToTheEnd done input h e =
    let none = e refl in
    (none, sym (append-nil done) ∙ ap (λ l. done ++ l) (sym none))
end_reads stage.Whole done input h e = (refl, refl)
