-- What the calls give, from a fresh state on: a beginning of the list that the rules have built, and what comes behind it.
use Prim.Native.Nat.{◌+◌, ◌/◌, ◌<◌, ◌≤◌, suc, ℕ}
use Rattle.std.specs.Prelude.{◌⊎◌, ◌≡◌, ltb}
use mathlib.Core.List.{List, [], ◌++◌, ◌∷◌}
use Rattle.std.proofs.Math.Logic.{inl}
use Rattle.std.proofs.Common.{inr, sym, le_refl, arith}
use Rattle.std.proofs.Math.Path.{ap, refl}
use Rattle.std.proofs.Math.ListN.{length}
use borrow.Author.Tests.{ltb-true}
use Rattle.yaml_text.specs.declared.Mark.{Mark}
use Rattle.yaml_text.specs.Mark.{origin}
use Rattle.yaml_text.specs.Refusal.{Read, got, refused}
use Rattle.yaml_text.specs.Test.{by_test}
use Rattle.yaml_text.specs.All.{All, holds, not_read}
use Rattle.yaml_text.specs.DecodeLaws.{Decodes, NoNul}
use Rattle.yaml_text.proofs.DecodeLaws.{decode_is}
use Rattle.yaml_text.specs.PlaceLaws.{left}
use Rattle.yaml_lexeme.specs.Token.{StreamStart, Token, empty_token, kind_bytes, texts}
use Rattle.yaml_lexeme.specs.Record.{record_words}
use Rattle.yaml_scan.specs.declared.Limits.{Limits}
use Rattle.yaml_scan.specs.State.{Event, State, put}
use Rattle.yaml_scan.specs.Scan.{begin}
use Rattle.yaml_scan.specs.Slots.{Slot, flat, slot, slots, tokens_of}
use Rattle.yaml_scan.specs.SlotLaws.{total}
use Rattle.yaml_stream.specs.Stream.{Called, Heard, Next, Stream, begun, brings, broken, closing, ended, fresh, heard, least_records, most_waiting, refusal, scanning, spent, token, too_few_words, too_many_wait, waits}
use Rattle.yaml_stream.specs.Kept.{From}
use Rattle.yaml_stream.specs.Tale.{Close, at_end, at_rule, built, tale, text_tale, told, told_of}
use Rattle.yaml_stream.specs.Sizes.{brings_texts, text_total}
use Rattle.yaml_stream.specs.Waits.{waits_slots}

-- the refusals of the stream's own, each with its reason; list: what the rules have built
pub data Own (words room : ℕ) (list : List Token) : ℕ → Mark → Type 0 where
  bytes_full : room < length (texts list) → Own words room list 5 origin
  many_wait : {m : Mark} → most_waiting < length list → Own words room list too_many_wait m
  few_words : words / record_words < least_records → Own words room list too_few_words origin

module _ (limits : Limits) (words room : ℕ) (list : List Token) where
  -- what a stream has still to give if it meets none of them: us, and then the run's close c.
  -- No candidate names a token that was given, and each token that was said and not given waits
  pub record StillGives (s : State) (n : ℕ) (xs : List Slot) (used : ℕ) (us : List Token) (c : Close) : Type 0 where
    pub steps : ℕ
    pub enough : left s.place < steps
    pub from : From n s.keys
    pub counted : n + length xs ≡ s.count
    pub tokens : us ≡ flat (waits n xs (tale limits steps s).events)
    pub close : c ≡ (tale limits steps s).close
    pub bytes_left : used + brings (tale limits steps s).events ≤ length (texts list)
    pub tokens_left : length (flat xs) + total (tale limits steps s).events ≤ length list

  abbrev pub Owes : List Token → Close → Stream → Type 0
  Owes us c (scanning s n xs used) = StillGives s n xs used us c
  Owes us c (closing xs) = (us ≡ flat xs) × (c ≡ at_end)
  Owes us c (broken k m) = (c ≡ at_rule k m) ⊎ Own words room list k m
  -- a step

-- a call

module _ (limits : Limits) (words room : ℕ) (list : List Token) where
  -- of an answer, and the stream behind it
  abbrev pub Answered : List Token → Close → Next → Stream → Type 0
  Answered us c (token t) x = (vs : List Token) × (us ≡ t ∷ vs) × Owes limits words room list vs c x
  Answered us c ended x = (us ≡ []) × (c ≡ at_end)
  Answered us c (refusal k m) x = (c ≡ at_rule k m) ⊎ Own words room list k m
  Answered us c spent x = ⊥

  abbrev pub CallAnswers : List Token → Close → Called → Type 0
  CallAnswers us c a = Answered us c a.answer a.stream

-- calls, one behind another

-- the tokens given and what comes behind them. P: the refusals of the stream's own
pub data Ends (P : ℕ → Mark → Type 0) (us : List Token) (c : Close) : Heard → Type 0 where
  -- all, then ended
  whole : c ≡ at_end → Ends P us c (heard us ended)
  -- a beginning, then the refusal of the broken rule
  by_rule : {ts : List Token} {n : ℕ} {m : Mark} (vs : List Token) → us ≡ ts ++ vs → c ≡ at_rule n m → Ends P us c (heard ts (refusal n m))
  -- a beginning, then one of the stream's own
  by_own : {ts : List Token} {n : ℕ} {m : Mark} (vs : List Token) → us ≡ ts ++ vs → P n m → Ends P us c (heard ts (refusal n m))

-- what k calls are heard to answer
pub data Hears (P : ℕ → Mark → Type 0) (us : List Token) (c : Close) (k : ℕ) : Heard → Type 0 where
  finished : {h : Heard} → Ends P us c h → Hears P us c k h
  -- a beginning, a token from each call
  so_far : {ts : List Token} (vs : List Token) → us ≡ ts ++ vs → length ts ≡ k → Hears P us c k (heard ts spent)

-- a fresh state

begun_owes : (limits : Limits) (words room : ℕ) (cs : List ℕ) → NoNul cs → let t = text_tale limits cs in Owes limits words room (tokens_of t.events) (tokens_of t.events) t.close (begun words cs)
unfolding begun slots brings total kind_bytes flat
begun_owes limits words room cs h =
    let s : Event = put (empty_token StreamStart origin) in
    let x : List Slot = slot (empty_token StreamStart origin) [] ∷ [] in
    let es = (tale limits (suc (length cs)) (begin cs)).events in
    by_test (ltb (words / record_words) least_records)
    (λ e. rw (e, begun) (inr (few_words (ltb-true (words / record_words) least_records e))))
    (λ e. rw (e, begun) (record {
      steps = suc (length cs);
      enough = le_refl _;
      from = tt;
      counted = refl;
      tokens = ap flat (sym (waits_slots x es));
      close = refl;
      bytes_left = omega (arith, brings_texts (s ∷ es));
      tokens_left = omega (arith, text_total limits cs h);
    }))

pub fresh_owes : (limits : Limits) (bytes : List ℕ) (words room : ℕ)
    → Owes limits words room (built limits bytes) (built limits bytes) (told limits bytes).close (fresh limits bytes words)
unfolding fresh told
fresh_owes limits bytes words room =
    by_test (ltb limits.bytes (length bytes))
    (λ e. rw (e, fresh, told) (inl refl))
    (λ e. rw (e, fresh, told) (by_text (decode_is 0 origin bytes)))
  where
    by_text : {r : Read (List ℕ)} → All (List ℕ) (Decodes 0 bytes) r → let t = told_of limits r in
        Owes limits words room (tokens_of t.events) (tokens_of t.events) t.close (elim r [ got cs ↦ begun words cs | refused k m ↦ broken k m ])
    by_text (holds {a = cs} d) = begun_owes limits words room cs d.no_nul
    by_text not_read = inl refl
