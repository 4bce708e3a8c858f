-- A step changes the connection of its key.
use Rattle.std.proofs.Common.{◌≡◌, ℕ, Option, None, set, ap, sym, ◌∙◌}
use Rattle.std.proofs.lemmas.List.{set-set}
use Rattle.bg_control_port.specs.Registers.{Register, Takes, changed, changed_from, number_after}
use Rattle.bg_control_port.specs.declared.connection.Connection.{Connection}
use Rattle.bg_control_port.specs.declared.connection.Moment.{Moment}

module _ {L : Type 0} where
  pub stepped : (old mid new : Register L) (key now : ℕ) (c : Connection L) (moment : Moment)
      → (step : Moment → Connection L → Option (Connection L)) (place : Option (Connection L)) → Takes old mid key now c moment
      → new ≡ record mid { places = set mid.places key place } → place ≡ step moment c → new ≡ changed step now old key
  stepped old mid new key now c moment step place takes is to =
      is
      ∙ ap (λ (r : Register L). record r { places = set r.places key place }) takes.now_is
      ∙ ap (λ ps. record old { places = ps; next_number = number_after old.next_number }) (set-set old.places key None place)
      ∙ ap (λ p. record old { places = set old.places key p; next_number = number_after old.next_number })
      (to ∙ ap (λ a. step a c) takes.moment_is)
      ∙ ap (λ p. changed_from p step now old key) (sym takes.was)
