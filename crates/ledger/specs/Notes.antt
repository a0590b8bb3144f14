-- What a note of a refusal tells.
use Rattle.std.specs.Prelude.{ℕ}
use Rattle.refusals.specs.Refusals.{number_of, layer_of}
use Rattle.refusals.specs.declared.Layer.{Layer}
use Rattle.ledger.specs.declared.notes.Note.{Note}

-- the number of the cause that a note tells
abbrev pub note_number : Note → ℕ
note_number n = number_of n.refusal.cause

-- the layer of the cause that a note tells
abbrev pub note_layer : Note → Layer
note_layer n = layer_of n.refusal.cause
