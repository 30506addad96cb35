-- What all items give is what an event gives.
use Rattle.std.proofs.Common.{◌≡◌, ℕ, ◌-◌, true, false, cond, List, [], map, take, sym, ap, ◌∙◌, arith}
use Rattle.std.specs.List.{flat_map}
use Rattle.firing.specs.At.{event_in, sheet_in}
use Rattle.firing.specs.Effects.{fired_as, item_gives}
use Rattle.firing.specs.declared.at.SheetEvent.{SheetEvent}
use Rattle.firing.proofs.Gives.{findings-given, joined_same, map-joined, moves-given}
use Rattle.items.specs.declared.item.Item.{Item}
use Rattle.rules.specs.declared.moves.Move.{Move}
use Rattle.rules.specs.Kinds.{ValueKind}
use Rattle.rules.specs.Step.{entry_faults, entry_moves, faults_at, is_watched, item_faults, item_moves, lapse_faults, leaving, moves_at, new_set, numbered_as, set_after}

module _ {V : Type 0} (K : ValueKind V) (s : SheetEvent V) (F : List (Item V)) where
  pub watched-moves : true ≡ is_watched (sheet_in s) (event_in s) → flat_map (item_gives (λ y row n entry. entry_moves K (sheet_in s) (event_in s) y row entry) K s F (λ y b. leaving (sheet_in s) y (fired_as b))) F ≡ moves_at K (sheet_in s) F (event_in s)
  unfolding moves_at
  watched-moves h = joined_same _ (item_moves K (sheet_in s) F (event_in s)) (moves-given K s F) F ∙ ap (λ b. cond b (flat_map (item_moves K (sheet_in s) F (event_in s)) F) []) h

  pub unwatched-moves : false ≡ is_watched (sheet_in s) (event_in s) → [] ≡ moves_at K (sheet_in s) F (event_in s)
  unfolding moves_at
  unwatched-moves h = ap (λ b. cond b (flat_map (item_moves K (sheet_in s) F (event_in s)) F) []) h

  pub watched-findings : (n : ℕ) → true ≡ is_watched (sheet_in s) (event_in s) → flat_map (item_gives (λ y row i entry. map (numbered_as n) (entry_faults y i entry)) K s F (λ y b. map (numbered_as n) (lapse_faults (sheet_in s) y (fired_as b)))) F ≡ map (numbered_as n) (faults_at K (sheet_in s) F (event_in s))
  unfolding faults_at
  watched-findings n h =
      joined_same _ (λ x. map (numbered_as n) (item_faults K (sheet_in s) F (event_in s) x)) (λ x. findings-given K s F x n) F
      ∙ sym (map-joined (numbered_as n) (item_faults K (sheet_in s) F (event_in s)) F)
      ∙ ap (λ b. map (numbered_as n) (cond b (flat_map (item_faults K (sheet_in s) F (event_in s)) F) [])) h

  pub unwatched-findings : false ≡ is_watched (sheet_in s) (event_in s) → [] ≡ faults_at K (sheet_in s) F (event_in s)
  unfolding faults_at
  unwatched-findings h = ap (λ b. cond b (flat_map (item_faults K (sheet_in s) F (event_in s)) F) []) h

  -- the front of a buffer that has the event's moves makes the set after the event
  pub set_after_lem : (buffer : List (Move V)) (n : ℕ) → take n buffer ≡ moves_at K (sheet_in s) F (event_in s) → new_set K (take (n - 0) buffer) F ≡ set_after K (sheet_in s) F (event_in s)
  unfolding set_after
  set_after_lem buffer n e =
      let z : n - 0 ≡ n = omega arith in
      ap (λ k. new_set K (take k buffer) F) z ∙ ap (λ l. new_set K l F) e
