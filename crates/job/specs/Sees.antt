-- What the code sees of a token is what the definition sees of it: the record has the kind's number, the style and the start mark, whatever texts came before;
-- and where it is a scalar, the place of its text. Of other kinds the effect asks for no text.
use Rattle.std.specs.Prelude.{◌+◌, ◌-◌, ◌≤◌, ℕ, ◌&&◌, false, not, true, List, [], ◌++◌, ◌≡◌, refl, eqb, drop, get_or, take}
use Rattle.std.proofs.Common.{append_assoc, ◌∙◌, ap, sym, arith, length-append, take-append-drop, drop_at, take_at}
use Rattle.std.proofs.Math.ListN.{length}
use Rattle.yaml_text.specs.Pick.{pick}
use Rattle.yaml_text.specs.Test.{by_test, true_false}
use Rattle.yaml_lexeme.specs.declared.Style.TheVariants.{Plain}
use Rattle.yaml_lexeme.specs.Token.{Alias, Anchor, BlockEnd, BlockEntry, BlockMappingStart, BlockSequenceStart, ByteOrderMark, DocumentEnd, DocumentStart, FlowEntry, FlowMappingEnd, FlowMappingStart, FlowSequenceEnd, FlowSequenceStart, Key, Kind, ReservedDirective, Scalar, StreamEnd, StreamStart, Tag, TagDirective, Token, Value, VersionDirective, kind_bytes, token_bytes}
use Rattle.yaml_lexeme.specs.Record.{laid, number_of, record_of, values_of}
use Rattle.yaml_job.specs.declared.Effect.{Effect}
use Rattle.yaml_job.specs.declared.Effect.TheVariants.{Refuses}
use Rattle.yaml_job.specs.declared.Met.{Met}
use Rattle.yaml_job.specs.declared.ShapePlace.{ShapePlace}
use Rattle.yaml_job.specs.declared.ShapePlace.TheVariants.{AtEnd, AtEntry, AtField, AtList, AtMapping, AtName, AtStart, AtText, AtValue, BehindField, BehindSeed}
use Rattle.yaml_job.specs.Job.{Sight, all_met, effect, is, kind_number, placed, sight, style_of}
use Rattle.stacks.specs.Most.{at_most, at_most_stays}
use Rattle.sink.specs.SlotWords.{laid_record}

-- of a record r: the bytes that its words name as a text, as far as there are so many
unfoldable pub text_seen : List ℕ → List ℕ → List ℕ
text_seen r b = let from = at_most (length b) (get_or r 7 0) in take (at_most (length b - from) (get_or r 8 0)) (drop from b)

abbrev pub sees : ℕ → ℕ → List ℕ → Sight
sees k s ds = record { kind = k; style = s; text = ds }

abbrev pub seen : List ℕ → List ℕ → Sight
seen r b = sees (get_or r 0 0) (get_or r 11 0) (text_seen r b)

-- as the code takes them
pub effect_taken : {e : Effect} (p : ShapePlace) (m : Met) (r b : List ℕ) (from n : ℕ) → from ≡ at_most (length b) (get_or r 7 0) → n ≡ at_most (length b - from) (get_or r 8 0)
    → e ≡ effect p m (sees (get_or r 0 0) (get_or r 11 0) (take (from + n - from) (drop from b))) → e ≡ effect p m (seen r b)
unfolding text_seen
effect_taken p m r b from n f g h =
    let i : from + n - from ≡ n = omega arith in
    let j : take (from + n - from) (drop from b) ≡ text_seen r b = rw (i, g, f) in
    h ∙ ap (λ (ds : List ℕ). effect p m (sees (get_or r 0 0) (get_or r 11 0) ds)) j

-- the kind

abbrev scalar_number : ℕ
scalar_number = kind_number (Scalar Plain [])

record KindSeen (used : ℕ) (k : Kind) : Type 0 where
  number : number_of (laid used k) ≡ kind_number k
  style : (values_of (laid used k)).4 ≡ style_of k
  -- of a scalar
  text : eqb (kind_number k) scalar_number ≡ true → ((values_of (laid used k)).0 ≡ used) × ((values_of (laid used k)).1 ≡ length (kind_bytes k))

no_scalar : {used : ℕ} {k : Kind} → number_of (laid used k) ≡ kind_number k → (values_of (laid used k)).4 ≡ style_of k
    → eqb (kind_number k) scalar_number ≡ false → KindSeen used k
no_scalar e f g = record { number = e; style = f; text = λ h. true_false (sym h ∙ g) }

kind_seen : (used : ℕ) (k : Kind) → KindSeen used k
unfolding number_of values_of laid kind_bytes
kind_seen used StreamStart = no_scalar refl refl refl
kind_seen used StreamEnd = no_scalar refl refl refl
kind_seen used (VersionDirective a b) = no_scalar refl refl refl
kind_seen used (TagDirective t u) = no_scalar refl refl refl
kind_seen used DocumentStart = no_scalar refl refl refl
kind_seen used DocumentEnd = no_scalar refl refl refl
kind_seen used ByteOrderMark = no_scalar refl refl refl
kind_seen used BlockSequenceStart = no_scalar refl refl refl
kind_seen used BlockMappingStart = no_scalar refl refl refl
kind_seen used BlockEnd = no_scalar refl refl refl
kind_seen used FlowSequenceStart = no_scalar refl refl refl
kind_seen used FlowSequenceEnd = no_scalar refl refl refl
kind_seen used FlowMappingStart = no_scalar refl refl refl
kind_seen used FlowMappingEnd = no_scalar refl refl refl
kind_seen used BlockEntry = no_scalar refl refl refl
kind_seen used FlowEntry = no_scalar refl refl refl
kind_seen used Key = no_scalar refl refl refl
kind_seen used Value = no_scalar refl refl refl
kind_seen used (Alias t) = no_scalar refl refl refl
kind_seen used (Anchor t) = no_scalar refl refl refl
kind_seen used (Tag t u) = no_scalar refl refl refl
kind_seen used (Scalar s t) = record { number = refl; style = refl; text = λ _. (refl, refl) }
kind_seen used (ReservedDirective t u) = no_scalar refl refl refl

-- the text

-- t stands in the bytes b behind a
module _ (a t b : List ℕ) (e : take (length (a ++ t)) b ≡ a ++ t) where
  abbrev rest : List ℕ
  rest = drop (length (a ++ t)) b

  parts : b ≡ a ++ (t ++ rest)
  parts = sym (take-append-drop (length (a ++ t)) b) ∙ ap (λ (z : List ℕ). z ++ rest) e ∙ append_assoc a t rest

  part_is : take (length t) (drop (length a) b) ≡ t
  part_is = ap (λ (z : List ℕ). take (length t) (drop (length a) z)) parts ∙ rw (drop_at a (t ++ rest) (length a) refl) (take_at t rest (length t) refl)

  fits : length a + length t ≤ length b
  fits = omega (arith, ap length parts, length-append a (t ++ rest), length-append t rest)

  -- where the words of r name it
  text_is : (r : List ℕ) → get_or r 7 0 ≡ length a → get_or r 8 0 ≡ length t → text_seen r b ≡ t
  unfolding text_seen
  text_is r f g =
      let n = fits in
      rw (f, g, at_most_stays (length b) (length a) (omega arith), at_most_stays (length b - length a) (length t) (omega arith)) part_is

-- the effect

placed_unseen : (p : ShapePlace) (m : Met) (k s : ℕ) (a b : List ℕ) → eqb k scalar_number ≡ false → placed p m (sees k s a) ≡ placed p m (sees k s b)
unfolding placed
placed_unseen AtStart m k s a b e = refl
placed_unseen AtMapping m k s a b e = refl
placed_unseen (AtField g) m k s a b e = refl
placed_unseen (AtName g) m k s a b e = rw e
placed_unseen (AtValue g f) m k s a b e = refl
placed_unseen (AtText g) m k s a b e = refl
placed_unseen (AtList g) m k s a b e = refl
placed_unseen (AtEntry g) m k s a b e = rw e
placed_unseen (BehindSeed g) m k s a b e = refl
placed_unseen BehindField m k s a b e = refl
placed_unseen AtEnd m k s a b e = refl

text_unseen : (p : ShapePlace) (m : Met) (k s : ℕ) (a b : List ℕ) → (eqb k scalar_number ≡ true → a ≡ b) → effect p m (sees k s a) ≡ effect p m (sees k s b)
unfolding effect
text_unseen p m k s a b h =
    by_test (eqb k scalar_number)
    (λ e. rw (h e))
    (λ e. ap (λ (r : Effect). pick (is StreamEnd (sees k s a) && not (all_met m)) (Refuses 71) r) (placed_unseen p m k s a b e))

-- behind texts `gone`, which stand in front of the token's own
pub effect_seen : (p : ShapePlace) (m : Met) (t : Token) (gone b : List ℕ) → take (length (gone ++ token_bytes t)) b ≡ gone ++ token_bytes t
    → effect p m (seen (laid_record (length gone) t) b) ≡ effect p m (sight t)
unfolding record_of
effect_seen p m t gone b e =
    let s = kind_seen (length gone) t.kind in
    let r = laid_record (length gone) t in
    same_kind (text_seen r b) s.number s.style
    ∙ text_unseen p m (kind_number t.kind) (style_of t.kind) (text_seen r b) (token_bytes t) (λ h. text_is gone (token_bytes t) b e r (s.text h).0 (s.text h).1)
  where
    same_kind : {k l s u : ℕ} (ds : List ℕ) → k ≡ l → s ≡ u → effect p m (sees k s ds) ≡ effect p m (sees l u ds)
    same_kind ds f g = rw (f, g)
