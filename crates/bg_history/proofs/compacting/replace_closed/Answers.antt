use Rattle.std.proofs.Common.{◌≡◌, ◌<◌, ◌≤◌, ◌+◌, length, reverse, map, set, get_or, slice_get, ap, sym, ◌∙◌, arith}
use Rattle.std.specs.List.{list_any}
use Rattle.std.proofs.lemmas.List.{length-map}
use Rattle.bg_history.specs.declared.entry.Entry.{Entry}
use Rattle.bg_history.specs.declared.entry.Entry.TheVariants.{Tick, Leave}
use Rattle.bg_history.specs.Compacted.{is_among, bump, raised}
use Rattle.bg_history.specs.Compacting.{is_enter_of, is_some_enter_of, as_left}
use Rattle.bg_history.proofs.Closing.{left_before, entry-here, left-more, enter-there, enter-of, left-same, closes-here, none-replaced, none-raised}
use Rattle.bg_history.proofs.Laying.{within-get, any-entry}
use Rattle.bg_history.proofs.compacting.replace_closed.Goals as goal
use Rattle.bg_history.proofs.compacting.replace_closed.Goals.{in-Enter+in-Some, in-Enter+in_default-get_mut, in-Leave, in_default}

pub loop-place-init : goal.loop-place-init
loop-place-init c = record { entries = sym (none-replaced c.args.entries.now); closed = sym (none-raised (reverse c.args.entries.now) c.args.closed.now) }

pub place_of_enter-enter-requires : goal.place_of_enter-enter-requires
place_of_enter-enter-requires c =
    let xs = c.args.entries.now in
    let i = c.loop-place.place in
    let d : Entry = Tick 0 in
    let v = c.loop-place.invariant in
    let lt : i < length xs = omega (arith, ap length v.entries, length-map xs (as_left (is_among (left_before i xs)))) in
    let within : i < length c.loop-place.entries = omega (arith, ap length v.entries, length-map xs (as_left (is_among (left_before i xs)))) in
    let is : get_or (map (as_left (is_among (left_before i xs))) xs) i d ≡ Leave c.in-Leave.seat c.in-Leave.number c.in-Leave.revision
    = ap (λ l. get_or l i d) (sym v.entries) ∙ any-entry c.loop-place.entries i d c.index-entries-place.result within ∙ c.in-Leave.is in
    ap (list_any (is_enter_of c.in-Leave.number)) v.entries
    ∙ enter-there (length c.args.closed.now) xs i d c.in-Leave.seat c.in-Leave.number c.in-Leave.revision lt c.requires.sound (sym (entry-here (length c.args.closed.now) xs i d lt c.requires.sound) ∙ is)

pub replace-requires-clause-within : goal.replace-requires-clause-within
replace-requires-clause-within c = let e = enter-of c.in-Leave.number _ c.place_of_enter-enter.ensures in within-get _ _ _ e.is

pub replace-requires-clause-fits : goal.replace-requires-clause-fits
replace-requires-clause-fits c seat number revision port service at =
    let xs = c.args.entries.now in
    let i = c.loop-place.place in
    let j = c.place_of_enter-enter.result in
    let d : Entry = Tick 0 in
    let v = c.loop-place.invariant in
    let lt : i < length xs = omega (arith, ap length v.entries, length-map xs (as_left (is_among (left_before i xs)))) in
    let within : i < length c.loop-place.entries = omega (arith, ap length v.entries, length-map xs (as_left (is_among (left_before i xs)))) in
    let is : get_or (map (as_left (is_among (left_before i xs))) xs) i d ≡ Leave c.in-Leave.seat c.in-Leave.number c.in-Leave.revision
    = ap (λ l. get_or l i d) (sym v.entries) ∙ any-entry c.loop-place.entries i d c.index-entries-place.result within ∙ c.in-Leave.is in
    let there = ap (λ l. is_some_enter_of c.in-Leave.number (slice_get l j)) (sym v.entries) ∙ c.place_of_enter-enter.ensures in
    let t = closes-here c.args.closed.now xs i d c.in-Leave.seat c.in-Leave.number c.in-Leave.revision j lt c.requires.sound is there seat service number revision port
    (ap (λ l. slice_get l j) (sym v.entries) ∙ at) in
    let len : length c.loop-place.closed ≡ length (raised (is_among (left_before i xs)) (reverse xs) c.args.closed.now) = ap length v.closed in
    let same : get_or c.loop-place.closed seat 0 ≡ get_or (raised (is_among (left_before i xs)) (reverse xs) c.args.closed.now) seat 0 = ap (λ l. get_or l seat 0) v.closed in
    let here : seat < length c.loop-place.closed = omega (arith, len, t.within) in
    let most : get_or c.loop-place.closed seat 0 + 1 ≤ 9007199254740992 = omega (arith, same, t.fits, c.requires.given) in
    (here, most)

pub loop-place-preserved : goal.loop-place-preserved
loop-place-preserved c =
    let xs = c.args.entries.now in
    let i = c.loop-place.place in
    let d : Entry = Tick 0 in
    let v = c.loop-place.invariant in
    let lt : i < length xs = omega (arith, ap length v.entries, length-map xs (as_left (is_among (left_before i xs)))) in
    let within : i < length c.loop-place.entries = omega (arith, ap length v.entries, length-map xs (as_left (is_among (left_before i xs)))) in
    let read : get_or (map (as_left (is_among (left_before i xs))) xs) i d ≡ get_or c.loop-place.entries i c.index-entries-place.result
    = ap (λ l. get_or l i d) (sym v.entries) ∙ any-entry c.loop-place.entries i d c.index-entries-place.result within in
    let here : get_or xs i d ≡ get_or c.loop-place.entries i c.index-entries-place.result = sym (entry-here (length c.args.closed.now) xs i d lt c.requires.sound) ∙ read in
    elim c.match-entries-place.branch [
      | in-Enter+in-Some w ↦
          let more : left_before (i + 1) xs ≡ left_before i xs = left-more xs i d _ lt (here ∙ w.in-Enter.is) in
          record {
            entries = w.entries-is ∙ v.entries ∙ ap (λ l. map (as_left (is_among l)) xs) (sym more);
            closed = w.closed-is ∙ v.closed ∙ ap (λ l. raised (is_among l) (reverse xs) c.args.closed.now) (sym more);
          }
      | in-Enter+in_default-get_mut w ↦
          let more : left_before (i + 1) xs ≡ left_before i xs = left-more xs i d _ lt (here ∙ w.in-Enter.is) in
          record {
            entries = w.entries-is ∙ v.entries ∙ ap (λ l. map (as_left (is_among l)) xs) (sym more);
            closed = w.closed-is ∙ v.closed ∙ ap (λ l. raised (is_among l) (reverse xs) c.args.closed.now) (sym more);
          }
      | in-Leave w ↦
          let j = w.place_of_enter-enter.result in
          let e = enter-of w.in-Leave.number _ w.place_of_enter-enter.ensures in
          let there = ap (λ l. is_some_enter_of w.in-Leave.number (slice_get l j)) (sym v.entries) ∙ w.place_of_enter-enter.ensures in
          let t = closes-here c.args.closed.now xs i d w.in-Leave.seat w.in-Leave.number w.in-Leave.revision j lt c.requires.sound (read ∙ w.in-Leave.is) there
          e.seat e.service w.in-Leave.number e.revision e.port (ap (λ l. slice_get l j) (sym v.entries) ∙ e.is) in
          record {
            entries = w.entries-is ∙ w.replace.ensures.entries e.seat w.in-Leave.number e.revision e.port e.service e.is
                ∙ ap (λ l. set l j (Leave e.seat w.in-Leave.number e.revision)) v.entries ∙ t.entries;
            closed = w.closed-is ∙ w.replace.ensures.closed e.seat w.in-Leave.number e.revision e.port e.service e.is ∙ ap (bump e.seat) v.closed ∙ t.counts;
          }
      | in_default w ↦
          let more : left_before (i + 1) xs ≡ left_before i xs = left-same xs i d _ lt here w.in_default.not-Leave in
          record {
            entries = w.entries-is ∙ v.entries ∙ ap (λ l. map (as_left (is_among l)) xs) (sym more);
            closed = w.closed-is ∙ v.closed ∙ ap (λ l. raised (is_among l) (reverse xs) c.args.closed.now) (sym more);
          }
    ]
