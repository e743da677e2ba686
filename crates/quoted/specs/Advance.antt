-- A turn of the code, held against the definition: what is left to read, behind what is written, gives the whole.
use Rattle.std.specs.Prelude.{◌*◌, ◌+◌, ◌<◌, ◌≤◌, ℕ, ◌&&◌, false, List, Result, Ok, Err, ◌≡◌, eqb, ltb, drop, length}
use Rattle.std.proofs.lemmas.List.Edits.{sets}
use Rattle.yaml_text.specs.declared.Refusal.{Refusal}
use Rattle.yaml_text.specs.Mark as definition
use Rattle.yaml_text.specs.Class.{is_blank, is_break}
use Rattle.yaml_text.specs.Char.{tab}
use Rattle.yaml_text.specs.Mark.{Run, along, edge_of, new_line}
use Rattle.yaml_text.specs.Pick.{pick}
use Rattle.yaml_text.specs.Refusal.{Read, got, refused}
use Rattle.yaml_text.specs.Utf8.{chars, encode}
use Rattle.yaml_lexeme.specs.Quoted as quotes
use Rattle.chars.specs.declared.mark.Place.{Place}
use Rattle.chars.specs.Bytes.{CharAt}
use Rattle.chars.specs.View.{Stands, past, view}
use Rattle.quoted.specs.declared.fold.Mode.TheVariants.{Chars}
use Rattle.reading.specs.declared.Written.{Written}
use Rattle.quoted.specs.declared.turns.Quote.{Quote}
use Rattle.quoted.specs.declared.turns.Progress.{Progress}
use Rattle.quoted.specs.declared.turns.Turned.{Turned}
use Rattle.quoted.specs.declared.turns.Turned.TheVariants.{Closes, Goes}
use Rattle.reading.specs.Puts.{Puts}
use Rattle.quoted.specs.Modes.{BlanksKept, behind_break, blank_mode, break_mode, mode_of, owed}
use Rattle.quoted.specs.Texts.{Stretch, turn_stretch}

abbrev pub quote_of : Quote → quotes.Quote
quote_of q = record { single = q.single; indent = q.indent; start = q.start }

-- what the bytes hold once a text is written, how many it takes, and the place behind it
pub record QuotedText : Type 0 where
  pub bytes : List ℕ
  pub count : ℕ
  pub place : definition.Place

-- what is read, written from n on
unfoldable pub written : List ℕ → ℕ → Read Run → Read QuotedText
written out n (got r) = got (record { bytes = sets out n (encode r.text); count = n + length (encode r.text); place = r.place })
written out n (refused k m) = refused k m

-- what is left to read
abbrev pub rest_of : List ℕ → Quote → Progress → Read Run
rest_of text q t =
    quotes.quoted_run (quote_of q) (mode_of text t.place.at t.mode) 0 t.place.mark (chars (drop t.place.at text))

abbrev pub to_write : List ℕ → Quote → List ℕ → Progress → Read QuotedText
to_write text q out t = written out t.count (rest_of text q t)

-- where the scalar ended
unfoldable pub ended : List ℕ → List ℕ → Result Written Refusal → Read QuotedText
ended text out (Ok w) = got (record { bytes = out; count = w.count; place = view text w.place })
ended text out (Err f) = refused f.number f.mark

-- where a turn led to
unfoldable pub led_to : List ℕ → Quote → List ℕ → Result Turned Refusal → Read QuotedText
led_to text q out (Ok (Goes t)) = to_write text q out t
led_to text q out (Ok (Closes w)) = ended text out (Ok w)
led_to text q out (Err f) = refused f.number f.mark

-- a state within its bounds: at most three bytes of text for each that was read
pub record Sound (text : List ℕ) (t : Progress) : Type 0 where
  pub stands : Stands text t.place
  pub short : length text ≤ 1_048_576
  pub kept : BlanksKept text t.place.at t.mode
  pub few : t.count + owed t.place.at t.mode ≤ 3 * t.place.at

-- the same where nothing is kept back
abbrev pub text_turn : Written → Progress
text_turn w = record { place = w.place; mode = Chars; count = w.count }

-- a text that ends behind an offset: at most three bytes of it for each that was read
pub record ClosedBehind (text : List ℕ) (at : ℕ) (w : Written) : Type 0 where
  pub stands : Stands text w.place
  pub onward : at < w.place.at
  pub few : w.count ≤ 3 * w.place.at

abbrev pub Further : List ℕ → ℕ → Result Turned Refusal → Type 0
Further text at (Ok (Goes t)) = Sound text t × (at < t.place.at)
Further text at (Ok (Closes w)) = ClosedBehind text at w
Further text at (Err f) = Unit {0}

-- what a turn takes
abbrev pub turn_of : List ℕ → Quote → Progress → Stretch
turn_of text q t = turn_stretch (quote_of q) (mode_of text t.place.at t.mode) t.place.mark (chars (drop t.place.at text))

-- where it goes on, refused or not behind it
abbrev pub Leads : List ℕ → Stretch → Result Turned Refusal → Type 0
Leads text d (Ok (Goes u)) = (mode_of text u.place.at u.mode ≡ d.mode) × (view text u.place ≡ d.place)
Leads text d (Ok (Closes w)) = Unit {0}
Leads text d (Err f) = Unit {0}

-- its text is written from n on; of the bytes that a refusal leaves it tells only how many they are
abbrev pub TurnLeaves : List ℕ → ℕ → List ℕ → List ℕ → Result Turned Refusal → Type 0
TurnLeaves before n after t (Ok (Goes u)) = Puts before n after u.count t
TurnLeaves before n after t (Ok (Closes w)) = Puts before n after w.count t
TurnLeaves before n after t (Err f) = length after ≡ length before

-- the contract of a turn
pub record Advances (text : List ℕ) (q : Quote) (before after : List ℕ) (t : Progress) (r : Result Turned Refusal) : Type 0 where
  pub same : to_write text q before t ≡ led_to text q after r
  pub leaves : TurnLeaves before t.count after (turn_of text q t).text r
  pub leads : Leads text (turn_of text q t) r
  pub onward : Further text t.place.at r

-- over the blank c. 36: a tab as indentation, after a break
abbrev pub blank_turned : Quote → Progress → ℕ → Result Turned Refusal
blank_turned q t c =
    pick (behind_break t.mode && eqb c tab && ltb (edge_of t.place.mark) q.indent) (Err (record { number = 36; mark = t.place.mark }))
    (Ok (Goes (record { place = past t.place 1 (along t.place.mark); mode = blank_mode t.place.at t.mode; count = t.count })))

-- over a break of n characters
abbrev pub break_turned : ℕ → Progress → Turned
break_turned n t = Goes (record { place = past t.place n (new_line n t.place.mark); mode = break_mode t.mode; count = t.count })

-- a character that is neither blank nor break stands at an offset
pub record TextAt (text : List ℕ) (at : ℕ) : Type 0 where
  pub char : ℕ
  pub len : ℕ
  pub is : CharAt text at char len
  pub no_blank : is_blank char ≡ false
  pub no_break : is_break char ≡ false

-- the text that was read ends behind the quote; refused or not
abbrev pub RunBehind : List ℕ → Result Written Refusal → Type 0
RunBehind text (Ok w) = ClosedBehind text 0 w
RunBehind text (Err f) = Unit {0}

-- the contract of the whole run, from behind the opening quote; what the bytes hold where it closes is told by what is written
pub record RunEnds (text : List ℕ) (q : Quote) (before after : List ℕ) (e : Result Written Refusal) : Type 0 where
  pub same : written before 0 (quotes.quoted_run (quote_of q) quotes.chars_of 0 (along q.start) (chars (drop 1 text))) ≡ ended text after e
  pub kept : length after ≡ length before
  pub behind : RunBehind text e
