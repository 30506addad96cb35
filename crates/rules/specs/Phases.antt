-- The phases of a book, and which calls they allow.
use Rattle.std.specs.Prelude.{Bool, true, false, Ok, Err, Result}
use Rattle.refusals.specs.declared.refusal.Refusal.{Refusal}
use Rattle.refusals.specs.declared.refusal.Refusal.TheVariants.{WrongPhase}
use Rattle.rules.specs.declared.phase.Phase.{Phase}
use Rattle.rules.specs.declared.phase.Phase.TheVariants as phase
use Rattle.rules.specs.declared.phase.PhaseCall.{PhaseCall}
use Rattle.rules.specs.declared.phase.PhaseCall.TheVariants as call

-- the book was not opened yet
abbrev pub is_blank : Phase → Bool
is_blank phase.Blank = true
is_blank phase.Open = false
is_blank phase.Ended = false

-- the book takes events
abbrev pub is_open : Phase → Bool
is_open phase.Blank = false
is_open phase.Open = true
is_open phase.Ended = false

-- what a call answers in a phase: open wants a blank book, every other an open one
abbrev pub allowed : Phase → PhaseCall → Result (Unit {0}) Refusal
allowed phase.Blank call.Open = Ok tt
allowed phase.Blank call.Take = Err WrongPhase
allowed phase.Blank call.End = Err WrongPhase
allowed phase.Open call.Open = Err WrongPhase
allowed phase.Open call.Take = Ok tt
allowed phase.Open call.End = Ok tt
allowed phase.Ended call.Open = Err WrongPhase
allowed phase.Ended call.Take = Err WrongPhase
allowed phase.Ended call.End = Err WrongPhase

-- the phase after a call; one that is refused leaves it
abbrev pub phase_after : Phase → PhaseCall → Phase
phase_after phase.Blank call.Open = phase.Open
phase_after phase.Blank call.Take = phase.Blank
phase_after phase.Blank call.End = phase.Blank
phase_after phase.Open call.Open = phase.Open
phase_after phase.Open call.Take = phase.Open
phase_after phase.Open call.End = phase.Ended
phase_after phase.Ended call.Open = phase.Ended
phase_after phase.Ended call.Take = phase.Ended
phase_after phase.Ended call.End = phase.Ended
