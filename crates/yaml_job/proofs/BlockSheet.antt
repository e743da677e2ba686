-- Theorems about specs/BlockSheet, and what rests on them.
use Rattle.std.specs.Prelude.{◌*◌, ◌+◌, ◌/◌, ◌<◌, ◌≤◌, ℕ, false, List, [], ◌∷◌, ◌⊎◌, ◌≡◌, refl, length}
use Rattle.std.proofs.Common.{inl, inr, subst, sym, arith}
use Rattle.yaml_text.specs.declared.Mark.{Mark}
use Rattle.yaml_lexeme.specs.declared.Style.{Style}
use Rattle.yaml_lexeme.specs.declared.Style.TheVariants.{DoubleQuoted, Folded, Literal, Plain, SingleQuoted}
use Rattle.yaml_lexeme.specs.Token.{BlockEnd, FlowSequenceEnd, Kind, StreamEnd, Token, Value, texts}
use Rattle.yaml_lexeme.specs.Record.{record_words}
use Rattle.yaml_scan.specs.declared.Limits.{Limits}
use Rattle.yaml_scan.specs.State.{State}
use Rattle.yaml_scan.specs.Slots.{Slot, flat}
use Rattle.theorems.specs.Accepted.{Accepts}
use Rattle.yaml_stream.specs.Stream.{broken, fresh, least_records, ready, scanning, too_many_wait}
use Rattle.yaml_stream.specs.Waiting.{StreamReaches, hear_breaks, here}
use Rattle.yaml_stream.specs.KeysNear.{stream_start}
use Rattle.yaml_stream.proofs.NoCrowd.{orderly_no_51, orderly_waits}
use Rattle.yaml_stream.specs.Orderly.{InOrder, Orderly, SetApart, part, part_of, scalar_part, sets_apart}
use Rattle.yaml_job.specs.declared.Field.{Field}
use Rattle.yaml_job.specs.declared.Field.TheVariants.{Panel, Sample, Seeds}
use Rattle.yaml_job.specs.declared.Form.TheVariants.{Block, Braces}
use Rattle.yaml_job.specs.Job.{follow, job}
use Rattle.yaml_job.specs.Shape.{Entries, Fields, Is, IsScalar, Shape, ValueOf, field, last_seed, next_field, next_seed, no_field, no_seed, panel_text, sample_text, seed_list, shape, times}
use Rattle.yaml_job.specs.Reads.{ends_done}
use Rattle.yaml_job.specs.Calls.{talk_of}
use Rattle.yaml_job.proofs.Done.{done_or_51}
use Rattle.yaml_job.specs.BlockSheet.{InBlock, OnNameLine, most_behind}

-- whatever stands before them
abbrev AllOrderly : List Token → Type 0
AllOrderly ts = (p q : Token) → Orderly most_behind p q ts

abbrev FewOrApart : List Token → Type 0
FewOrApart ts = SetApart ts ⊎ (length ts ≤ most_behind)

scalar_in_order : (p q x : Token) (ts : List Token) → IsScalar x → FewOrApart ts → InOrder most_behind (part_of x) p q x ts
unfolding InOrder part scalar_part
scalar_in_order p q x ts i h = subst (λ (k : Kind). InOrder most_behind (part k) p q x ts) (sym i.2) (by_style i.0)
  where
    by_style : (s : Style) → InOrder most_behind (scalar_part s) p q x ts
    by_style Plain = h
    by_style SingleQuoted = h
    by_style DoubleQuoted = h
    by_style Literal = h
    by_style Folded = h

-- the list's entries, up to its bracket
entries_orderly : {e : Token} {ts us : List Token} {vs : List ℕ} → Entries ts vs (e ∷ us) → Is FlowSequenceEnd e → length us < most_behind → AllOrderly us → AllOrderly ts
unfolding InOrder part sets_apart
entries_orderly {e} no_seed b w o p q = (rw b tt, o q e)
entries_orderly {e} {us = us} (last_seed {t = t} s) b w o p q =
    (scalar_in_order p q t (e ∷ us) (Plain, s.0, s.1) (inr (omega arith)), (rw b tt, o t e))
entries_orderly (next_seed {t = t} {c = c} {ts = ts} s d k) b w o p q =
    (scalar_in_order p q t (c ∷ ts) (Plain, s.0, s.1) (inl (rw d refl)), (rw d tt, entries_orderly k b w o t c))

entries_lines : {ts us : List Token} {vs : List ℕ} → Entries ts vs us → OnNameLine ts → OnNameLine us
entries_lines no_seed o = o
entries_lines (last_seed s) o = o.1
entries_lines (next_seed s d k) o = entries_lines k o.1.1

-- fields that are left, up to BlockEnd and StreamEnd: each at most once
abbrev OnceAtMost : List Field → Type 0
OnceAtMost fs = (f : Field) → times f fs ≤ 1

-- they begin with a Key; or none is left
behind_text : {e z : Token} {fs : List Field} {ts : List Token} {vs : List ℕ} → Fields Block fs ts vs (e ∷ z ∷ []) → FewOrApart ts
unfolding part sets_apart
behind_text no_field = inr (omega arith)
behind_text (next_field (field k n v r) h) = inl (rw k refl)

-- without the list: four tokens each
fields_length : {e z : Token} {fs : List Field} {ts : List Token} {vs : List ℕ} → Fields Block fs ts vs (e ∷ z ∷ []) → times Seeds fs ≡ 0
    → length ts ≡ 4 * (times Sample fs + times Panel fs) + 2
unfolding times
fields_length no_field i = refl
fields_length (next_field (field k n v (sample_text s)) h) i = omega (arith, fields_length h (omega arith))
fields_length (next_field (field k n v (panel_text s)) h) i = omega (arith, fields_length h (omega arith))
fields_length (next_field (field k n v (seed_list b s c)) h) i = absurd (omega arith)

value_orderly : {e z : Token} {f : Field} {fs : List Field} {ts us : List Token} {vs ws : List ℕ} → ValueOf f ts vs us → Fields Block fs us ws (e ∷ z ∷ []) → OnceAtMost (f ∷ fs)
    → (t v : Token) → Is Value v → OnNameLine (t ∷ v ∷ ts) → (OnNameLine us → AllOrderly us) → Orderly most_behind t v ts
unfolding InOrder part times
value_orderly (sample_text {t = x} {us = us} s) h i t v b o go = (scalar_in_order t v x us s (behind_text h), go o.1.1.1 v x)
value_orderly (panel_text {t = x} {us = us} s) h i t v b o go = (scalar_in_order t v x us s (behind_text h), go o.1.1.1 v x)
value_orderly (seed_list {b = x} s g c) h i t v b o go =
    let n = o.0 s in
    let w = fields_length h (omega (arith, i Seeds)) in
    (rw s (n.0, rw b refl, n.1), entries_orderly g c (omega (arith, w, i Sample, i Panel)) (go (entries_lines g o.1.1.1).1) v x)

fields_orderly : {e z : Token} {fs : List Field} {ts : List Token} {vs : List ℕ} → Fields Block fs ts vs (e ∷ z ∷ []) → Is BlockEnd e → Is StreamEnd z → OnceAtMost fs → OnNameLine ts
    → AllOrderly ts
unfolding InOrder part sets_apart times
fields_orderly no_field d l i o p q = (rw d tt, (rw l tt, tt))
fields_orderly (next_field (field {k = k} {t = t} {v = v} {ts = ts} a n b r) h) d l i o p q =
    let rest = value_orderly r h i t v b o.1 (λ j x y. fields_orderly h d l (λ f. omega (arith, i f)) j x y) in
    (rw a tt, (scalar_in_order q k t (v ∷ ts) (n.0, n.1, n.2) (inl (rw b refl)), (rw b tt, rest)))

pub shape_orderly : {ts : List Token} {vs : List ℕ} → Shape ts vs [] → InBlock ts → OnNameLine ts → Orderly most_behind stream_start stream_start ts
unfolding InOrder part
shape_orderly (shape {g = Block} {s = s} {b = b} a i h d l n) f o = (rw a tt, (rw i tt, fields_orderly h d l (λ f. omega (arith, n f)) o.1.1 s b))
shape_orderly (shape {g = Braces} a i h d l n) f o = let z : ◌≡◌ {A = ℕ} 0 1 = cc in absurd (omega arith)

module _ (limits : Limits) (bytes : List ℕ) (ts : List Token) (vs : List ℕ) (words room : ℕ) (a : Accepts limits bytes ts) (s : Shape ts vs []) (i : InBlock ts) (o : OnNameLine ts) where
  pub block_sheet_no_51 : (m : Mark) → StreamReaches limits room (fresh limits bytes words) (broken too_many_wait m) → ⊥
  block_sheet_no_51 m r = orderly_no_51 limits bytes ts most_behind a (shape_orderly s i o) room (omega arith) words m r

  -- before each step at most 36 tokens wait
  pub block_sheet_waits : {t : State} {n used : ℕ} {xs : List Slot} → StreamReaches limits room (fresh limits bytes words) (scanning t n xs used)
      → ready (scanning t n xs used) ≡ false → length (flat xs) ≤ 36
  block_sheet_waits r e = orderly_waits limits bytes ts most_behind a (shape_orderly s i o) room (omega arith) words r e

  -- with words for 4,400 records and bytes for its texts the job is done with its seeds, however many
  pub block_sheet_done : (k : ℕ) → length ts < k → least_records ≤ words / record_words → length (texts ts) ≤ room → follow limits room k (job limits bytes words) ≡ talk_of 0 vs ends_done
  block_sheet_done k b w d =
      done_or_51 limits bytes words room k ts vs a s b w d
      (λ m e. block_sheet_no_51 m (hear_breaks limits room k (fresh limits bytes words) too_many_wait m here e))
