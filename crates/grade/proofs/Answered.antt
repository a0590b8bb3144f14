-- Lines that were answered, and what is kept of an input.
use Rattle.std.proofs.Common.{◌≡◌, ℕ, suc, ◌<◌, Bool, true, false, cond, not, ◌&&◌, eqb, List, [], ◌∷◌, ◌++◌, length, Ok, Err, Result, Option, OnOk, sym, refl, ap, ◌∙◌, subst, ⊎_elim, arith, append_assoc}
use Rattle.std.specs.List.{flat_map, onto_first, slice_split}
use Rattle.std.proofs.lemmas.Bool.{cases_Bool}
use Rattle.std.proofs.lemmas.Bool.Decides.{nat_tests}
use Rattle.std.proofs.lemmas.Grind.{flat_map-append}
use Rattle.std.proofs.lemmas.List.{append-nil}
use Rattle.refusals.specs.declared.Refusal.{Refusal}
use Rattle.grade.specs.Answers.{line_answer}
use Rattle.grade.specs.Lines.{is_word}
use Rattle.grade.specs.Streams.{answer_text, line_text, lines_of, answers_of, is_feed, without_mark}
use Rattle.grade.specs.Inputs.{IsHeadOf, IsTypedAfter, IsInputAfter, head_with, ends_mark}
use Rattle.grade.specs.States.{IsLineAfter}
use Rattle.grade.specs.declared.answers.Answer.{Answer}
use Rattle.grade.specs.declared.input.Head.{Head}
use Rattle.grade.specs.declared.input.Head.TheVariants.{Start, One, Two, Past}
use Rattle.grade.specs.declared.input.Input.{Input}
use Rattle.grade.specs.declared.input.Typed.{Typed}
use Rattle.grade.proofs.Parts.{split_ended, split_grown, onto_last, onto_last_at, some_part}

pub on_ok : {X E A B : Type 0} (r : Result X E) → (A → B) → OnOk r A → OnOk r B
on_ok (Ok x) f a = f a
on_ok (Err e) f a = tt

-- ---- lines

some_length : (n : ℕ) → not (eqb (suc n) 0) ≡ true
some_length n = grind (arith, nat_tests)

-- one part as a line, if it has any byte
abbrev pub last_line : List ℕ → List (List ℕ)
last_line part = cond (is_word part) (part ∷ []) []

-- parts without the last one, if that is empty
abbrev without_empty_last : List (List ℕ) → List (List ℕ)
without_empty_last [] = []
without_empty_last (part ∷ []) = last_line part
without_empty_last (part ∷ next ∷ more) = part ∷ without_empty_last (next ∷ more)

last_longer : (b : ℕ) (part : List ℕ) → last_line (b ∷ part) ≡ onto_first b (last_line part)
last_longer b [] = ap (λ t. cond t ((b ∷ []) ∷ []) []) (some_length 0)
last_longer b (c ∷ part) = ap (λ t. cond t ((b ∷ c ∷ part) ∷ []) []) (some_length (suc (length part))) ∙ ap (λ t. onto_first b (cond t ((c ∷ part) ∷ []) [])) (sym (some_length (length part)))

step : (t : Bool) (b : ℕ) (parts : List (List ℕ)) → 0 < length parts → cond t ([] ∷ without_empty_last parts) (onto_first b (without_empty_last parts)) ≡ without_empty_last (cond t ([] ∷ parts) (onto_first b parts))
step t b [] h = absurd (omega (arith, h))
step true b (part ∷ parts) h = refl
step false b (part ∷ []) h = sym (last_longer b part)
step false b (part ∷ next ∷ more) h = refl

-- the lines of an input are its parts between line feeds, but for an empty last one
lines_by_parts : (bytes : List ℕ) → lines_of bytes ≡ without_empty_last (slice_split is_feed bytes)
lines_by_parts [] = refl
lines_by_parts (b ∷ bytes) =
    ap (λ lines. cond (is_feed b) ([] ∷ lines) (onto_first b lines)) (lines_by_parts bytes)
    ∙ step (is_feed b) b (slice_split is_feed bytes) (some_part is_feed bytes)

last_of : (ended : List (List ℕ)) (current : List ℕ) → without_empty_last (ended ++ current ∷ []) ≡ ended ++ last_line current
last_of [] current = refl
last_of (e ∷ []) current = refl
last_of (e ∷ f ∷ ended) current = ap (λ parts. e ∷ parts) (last_of (f ∷ ended) current)

-- the answers are those of the lines that ended, and of the last
pub answers_by_parts : (bytes : List ℕ) (ended : List (List ℕ)) (current : List ℕ) → slice_split is_feed bytes ≡ ended ++ current ∷ [] → answers_of bytes ≡ flat_map line_text ended ++ flat_map line_text (last_line current)
unfolding answers_of
answers_by_parts bytes ended current split =
    ap (flat_map line_text) (lines_by_parts bytes ∙ ap without_empty_last split ∙ last_of ended current)
    ∙ flat_map-append line_text ended (last_line current)

-- the answers of the last line
pub answers_of_last : (bytes : List ℕ) (ended : List (List ℕ)) (current : List ℕ) → slice_split is_feed bytes ≡ ended ++ current ∷ [] → is_word current ≡ true → answers_of bytes ≡ flat_map line_text ended ++ line_text current
answers_of_last bytes ended current split some =
    answers_by_parts bytes ended current split
    ∙ ap (λ t. flat_map line_text ended ++ flat_map line_text (cond t (current ∷ []) [])) some
    ∙ ap (λ xs. flat_map line_text ended ++ xs) (append-nil (line_text current))

pub answers_of_none : (bytes : List ℕ) (ended : List (List ℕ)) (current : List ℕ) → slice_split is_feed bytes ≡ ended ++ current ∷ [] → is_word current ≡ false → answers_of bytes ≡ flat_map line_text ended
answers_of_none bytes ended current split none =
    answers_by_parts bytes ended current split
    ∙ ap (λ t. flat_map line_text ended ++ flat_map line_text (cond t (current ∷ []) [])) none
    ∙ append-nil (flat_map line_text ended)

some_bytes : (current : List ℕ) (b : ℕ) → is_word (current ++ b ∷ []) ≡ true
some_bytes [] b = some_length 0
some_bytes (c ∷ current) b = some_length (length (current ++ b ∷ []))

-- ---- a text with one byte more

-- a byte of a line
pub byte_typed : (old new : Typed) (bytes out : List ℕ) (b : ℕ) → is_feed b ≡ false → ((line : List ℕ) → IsLineAfter old.line line → IsLineAfter new.line (line ++ b ∷ [])) → new.begun ≡ true → IsTypedAfter old bytes out → IsTypedAfter new (bytes ++ b ∷ []) out
byte_typed old new bytes out b other takes begun t = record {
  ended = t.ended;
  current = t.current ++ b ∷ [];
  split = split_grown is_feed bytes b other ∙ ap (onto_last b) t.split ∙ onto_last_at t.ended t.current b;
  out_is = t.out_is;
  taken = takes t.current t.taken;
  begun = begun ∙ sym (some_bytes t.current b);
}

-- a line feed
pub line_typed : (old new : Typed) (bytes before page page' : List ℕ) (b : ℕ) (r : Result (Option Answer) Refusal) → is_feed b ≡ true → ((line : List ℕ) → IsLineAfter old.line line → r ≡ line_answer line) → page' ≡ page ++ (answer_text r ++ 10 ∷ []) → IsLineAfter new.line [] → new.begun ≡ false → IsTypedAfter old bytes (before ++ page) → IsTypedAfter new (bytes ++ b ∷ []) (before ++ page')
line_typed old new bytes before page page' b r feed says printed fresh begun t = record {
  ended = t.ended ++ t.current ∷ [];
  current = [];
  split = split_ended is_feed bytes b feed ∙ ap (λ parts. parts ++ [] ∷ []) t.split;
  out_is =
      ap (λ xs. before ++ xs) (printed ∙ ap (λ x. page ++ (answer_text x ++ 10 ∷ [])) (says t.current t.taken))
      ∙ sym (append_assoc before page (line_text t.current))
      ∙ ap (λ xs. xs ++ line_text t.current) t.out_is
      ∙ ap (λ xs. flat_map line_text t.ended ++ xs) (sym (append-nil (line_text t.current)))
      ∙ sym (flat_map-append line_text t.ended (t.current ∷ []));
  taken = fresh;
  begun = begun;
}

-- ---- the head of an input

-- past its head, a byte belongs to the text
record Grown (head : Head) (read : List ℕ) (b : ℕ) : Type 0 where
  pub head_is : IsHeadOf head (read ++ b ∷ [])
  pub text : without_mark (read ++ b ∷ []) ≡ without_mark read ++ b ∷ []

no_first : (b : ℕ) → eqb b 239 ≡ false → (rest : List ℕ) → without_mark (b ∷ rest) ≡ b ∷ rest
no_first b e [] = refl
no_first b e (c ∷ []) = refl
no_first b e (c ∷ d ∷ rest) = ap (λ t. cond (t && (eqb c 187 && eqb d 191)) rest (b ∷ c ∷ d ∷ rest)) e

no_second : (b : ℕ) → eqb b 187 ≡ false → (rest : List ℕ) → without_mark (239 ∷ b ∷ rest) ≡ 239 ∷ b ∷ rest
no_second b e [] = refl
no_second b e (d ∷ rest) = ap (λ t. cond (t && eqb d 191) rest (239 ∷ b ∷ d ∷ rest)) e

no_third : (b : ℕ) → eqb b 191 ≡ false → (rest : List ℕ) → without_mark (239 ∷ 187 ∷ b ∷ rest) ≡ 239 ∷ 187 ∷ b ∷ rest
no_third b e rest = ap (λ t. cond t rest (239 ∷ 187 ∷ b ∷ rest)) e

is_that : (b n : ℕ) → eqb b n ≡ true → b ≡ n
is_that b n e = grind (arith, nat_tests)

at_start : (b : ℕ) → IsHeadOf (cond (eqb b 239) One Past) (b ∷ [])
at_start b =
    ⊎_elim
    (λ (e : eqb b 239 ≡ true). subst (λ t. IsHeadOf (cond t One Past) (b ∷ [])) (sym e) (ap (λ x. x ∷ []) (is_that b 239 e)))
    (λ (e : eqb b 239 ≡ false). subst (λ t. IsHeadOf (cond t One Past) (b ∷ [])) (sym e) (λ rest. no_first b e rest))
    (cases_Bool (eqb b 239))

at_one : (b : ℕ) → IsHeadOf (cond (eqb b 187) Two Past) (239 ∷ b ∷ [])
at_one b =
    ⊎_elim
    (λ (e : eqb b 187 ≡ true). subst (λ t. IsHeadOf (cond t Two Past) (239 ∷ b ∷ [])) (sym e) (ap (λ x. 239 ∷ x ∷ []) (is_that b 187 e)))
    (λ (e : eqb b 187 ≡ false). subst (λ t. IsHeadOf (cond t Two Past) (239 ∷ b ∷ [])) (sym e) (λ rest. no_second b e rest))
    (cases_Bool (eqb b 187))

grown : (head : Head) (read : List ℕ) (b : ℕ) → ends_mark head b ≡ false → IsHeadOf head read → Grown (head_with head b) read b
grown Start read b e h = subst (λ xs. Grown (head_with Start b) xs b) (sym h) (record { head_is = at_start b; text = refl })
grown One read b e h = subst (λ xs. Grown (head_with One b) xs b) (sym h) (record { head_is = at_one b; text = refl })
grown Two read b e h = subst (λ xs. Grown Past xs b) (sym h) (record { head_is = λ rest. no_third b e rest ∙ ap (λ xs. xs ++ rest) (sym (no_third b e [])); text = no_third b e [] })
grown Past read b e h = record {
  head_is = λ rest.
      ap without_mark (append_assoc read (b ∷ []) rest)
      ∙ h (b ∷ rest)
      ∙ sym (append_assoc (without_mark read) (b ∷ []) rest)
      ∙ ap (λ xs. xs ++ rest) (sym (h (b ∷ [])));
  text = h (b ∷ []);
}

-- a byte of the text
pub byte_taken : (old new : Input) (read out out' : List ℕ) (b : ℕ) → ends_mark old.head b ≡ false → new.head ≡ head_with old.head b → (IsTypedAfter old.typed (without_mark read) out → IsTypedAfter new.typed (without_mark read ++ b ∷ []) out') → IsInputAfter old read out → IsInputAfter new (read ++ b ∷ []) out'
byte_taken old new read out out' b other head takes k =
    let g = grown old.head read b other k.head in
    record {
      typed = subst (λ xs. IsTypedAfter new.typed xs out') (sym g.text) (takes k.typed);
      head = subst (λ h. IsHeadOf h (read ++ b ∷ [])) (sym head) g.head_is;
    }

-- the last byte of a mark
no_line_of_mark : (ended : List (List ℕ)) (current : List ℕ) → ◌≡◌ {A = List (List ℕ)} ((239 ∷ 187 ∷ []) ∷ []) (ended ++ current ∷ []) → ended ≡ []
no_line_of_mark [] current e = refl
no_line_of_mark (l ∷ []) current e = absurd cc
no_line_of_mark (l ∷ m ∷ ended) current e = absurd cc

two_read : (head : Head) (b : ℕ) (read : List ℕ) → ends_mark head b ≡ true → IsHeadOf head read → (read ≡ 239 ∷ 187 ∷ []) × (b ≡ 191) × (head_with head b ≡ Past)
two_read Start b read e h = absurd cc
two_read One b read e h = absurd cc
two_read Two b read e h = (h, is_that b 191 e, refl)
two_read Past b read e h = absurd cc

pub mark_taken : (old new : Input) (read out : List ℕ) (b : ℕ) → ends_mark old.head b ≡ true → new.head ≡ head_with old.head b → IsTypedAfter new.typed [] [] → IsInputAfter old read out → IsInputAfter new (read ++ b ∷ []) out
mark_taken old new read out b ends head fresh k =
    let (two, last, past) = two_read old.head b read ends k.head in
    let whole : read ++ b ∷ [] ≡ 239 ∷ 187 ∷ 191 ∷ [] = λ i. two i ++ last i ∷ [] in
    let t = k.typed in
    let none : t.ended ≡ [] = no_line_of_mark t.ended t.current (sym (ap (λ xs. slice_split is_feed (without_mark xs)) two) ∙ t.split) in
    let nothing : out ≡ [] = t.out_is ∙ ap (flat_map line_text) none in
    let result : IsInputAfter new (239 ∷ 187 ∷ 191 ∷ []) [] = record {
      typed = fresh;
      head = subst (λ h. IsHeadOf h (239 ∷ 187 ∷ 191 ∷ [])) (sym (head ∙ past)) (λ rest. refl);
    } in
    subst (λ xs. IsInputAfter new xs out) (sym whole) (subst (IsInputAfter new (239 ∷ 187 ∷ 191 ∷ [])) (sym nothing) result)

-- the answer of the line behind the last line feed
pub last_printed : (input : Input) (read before page : List ℕ) (r : Result (Option Answer) Refusal) → ((line : List ℕ) → IsLineAfter input.typed.line line → r ≡ line_answer line) → page ≡ answer_text r ++ 10 ∷ [] → IsInputAfter input read before → input.typed.begun ≡ true → before ++ page ≡ answers_of (without_mark read)
last_printed input read before page r says printed k begun =
    let t = k.typed in
    (λ i. t.out_is i ++ (printed ∙ ap (λ x. answer_text x ++ 10 ∷ []) (says t.current t.taken)) i)
    ∙ sym (answers_of_last (without_mark read) t.ended t.current t.split (sym t.begun ∙ begun))
