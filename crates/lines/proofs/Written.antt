-- What a text of a fixed capacity holds once something is written to it.
use Rattle.std.proofs.Common.{◌≡◌, List, ℕ, [], ◌++◌, Option, None, Some, IfSome, ap, ◌∙◌}
use Rattle.std.proofs.lemmas.Fmt.{contents_after_writes}
use Rattle.std.specs.Fmt.{WritesText}
use Rattle.arrayvec.specs.ArrayString.{ArrayString}

-- an empty text then holds all that was written, where that is known
pub text_written : (s : ArrayString) (o : Option (List ℕ)) (t : ArrayString) → s.bytes ≡ [] → WritesText (λ a bs b. b.bytes ≡ a.bytes ++ bs) s o t → IfSome o (λ line. t.bytes ≡ line)
text_written s None t empty written = tt
text_written s (Some line) t empty written = contents_after_writes _ (λ a. a.bytes) (λ _ _ _ h. h) s line t written ∙ ap (λ bs. bs ++ line) empty
