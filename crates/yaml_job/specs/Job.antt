-- Ask 14: the job reader. It takes tokens by Ask 8's call and sees of each its kind, style, text and start mark; it keeps none.
use Rattle.std.specs.Prelude.{◌*◌, ◌+◌, ◌-◌, suc, zero, ℕ, Bool, ◌&&◌, false, not, true, List, [], ◌∷◌, eqb, leb}
use Rattle.yaml_text.specs.declared.Mark.{Mark}
use Rattle.yaml_text.specs.Char.{'0', 'a', 'e', 'n'}
use Rattle.yaml_text.specs.Pick.{pick}
use Rattle.yaml_text.specs.Class.{is_digit, same}
use Rattle.yaml_lexeme.specs.declared.Style.TheVariants.{Plain}
use Rattle.yaml_lexeme.specs.Token.{BlockEnd, BlockMappingStart, FlowEntry, FlowMappingEnd, FlowMappingStart, FlowSequenceEnd, FlowSequenceStart, Key, Kind, Scalar, StreamEnd, StreamStart, Token, Value, token_bytes}
use Rattle.yaml_lexeme.specs.Record.{laid, number_of, style_number, values_of}
use Rattle.yaml_scan.specs.declared.Limits.{Limits}
use Rattle.yaml_stream.specs.Stream.{Next, Stream, call, ended, fresh, refusal, spent, token}
use Rattle.yaml_job.specs.declared.Closing.{Closing}
use Rattle.yaml_job.specs.declared.Closing.TheVariants.{Done, NotDone}
use Rattle.yaml_job.specs.declared.Effect.{Effect}
use Rattle.yaml_job.specs.declared.Effect.TheVariants.{Finishes, Hands, Passes, Refuses}
use Rattle.yaml_job.specs.declared.Field.{Field}
use Rattle.yaml_job.specs.declared.Field.TheVariants.{Panel, Sample, Seeds}
use Rattle.yaml_job.specs.declared.Form.{Form}
use Rattle.yaml_job.specs.declared.Form.TheVariants.{Block, Braces}
use Rattle.yaml_job.specs.declared.JobAnswer.{JobAnswer}
use Rattle.yaml_job.specs.declared.JobAnswer.TheVariants.{Closed, Lost, Seed}
use Rattle.yaml_job.specs.declared.Met.{Met}
use Rattle.yaml_job.specs.declared.ShapePlace.{ShapePlace}
use Rattle.yaml_job.specs.declared.ShapePlace.TheVariants.{AtEnd, AtEntry, AtField, AtList, AtMapping, AtName, AtStart, AtText, AtValue, BehindField, BehindSeed}

-- what the reader sees

-- of a token, besides its start mark: words 1 and 12 of its record, and its text
pub record Sight : Type 0 where
  pub kind : ℕ
  pub style : ℕ
  pub text : List ℕ

abbrev pub kind_number : Kind → ℕ
kind_number k = number_of (laid 0 k)

abbrev pub style_of : Kind → ℕ
style_of k = (values_of (laid 0 k)).4

abbrev pub sight : Token → Sight
sight t = record { kind = kind_number t.kind; style = style_of t.kind; text = token_bytes t }

abbrev pub is : Kind → Sight → Bool
is k v = eqb v.kind (kind_number k)

-- of any style
abbrev pub is_scalar : Sight → Bool
is_scalar v = is (Scalar Plain []) v

-- numbers

abbrev pub most_seed : ℕ
most_seed = 4_294_967_295

-- the value of these digits, behind digits of value n
unfoldable pub value_from : ℕ → List ℕ → ℕ
value_from n [] = n
value_from n (d ∷ ds) = value_from (n * 10 + (d - '0')) ds

unfoldable pub all_digits : List ℕ → Bool
all_digits [] = true
all_digits (d ∷ ds) = is_digit d && all_digits ds

-- one digit, or several of which the first is not 0
unfoldable pub well_led : List ℕ → Bool
well_led [] = false
well_led (d ∷ []) = true
well_led (d ∷ e ∷ ds) = not (eqb d '0')

-- digits without a leading zero, but for 0 itself; from 0 to 4,294,967,295
unfoldable pub is_number : List ℕ → Bool
is_number ds = well_led ds && (all_digits ds && leb (value_from 0 ds) most_seed)

-- fields

abbrev 'd' : ℕ
'd' = 100

abbrev 'l' : ℕ
'l' = 108

abbrev 'm' : ℕ
'm' = 109

abbrev 'p' : ℕ
'p' = 112

abbrev 's' : ℕ
's' = 115

unfoldable pub spelled : Field → List ℕ
spelled Sample = 's' ∷ 'a' ∷ 'm' ∷ 'p' ∷ 'l' ∷ 'e' ∷ []
spelled Panel = 'p' ∷ 'a' ∷ 'n' ∷ 'e' ∷ 'l' ∷ []
spelled Seeds = 's' ∷ 'e' ∷ 'e' ∷ 'd' ∷ 's' ∷ []

abbrev pub none_met : Met
none_met = record { sample = false; panel = false; seeds = false }

abbrev pub has : Met → Field → Bool
has m Sample = m.sample
has m Panel = m.panel
has m Seeds = m.seeds

abbrev pub adds : Field → Met → Met
adds Sample m = record { sample = true; panel = m.panel; seeds = m.seeds }
adds Panel m = record { sample = m.sample; panel = true; seeds = m.seeds }
adds Seeds m = record { sample = m.sample; panel = m.panel; seeds = true }

abbrev pub all_met : Met → Bool
all_met m = m.sample && (m.panel && m.seeds)

-- the shape

-- what ends the mapping
abbrev pub end_of : Form → Kind
end_of Block = BlockEnd
end_of Braces = FlowMappingEnd

-- in a block the next field follows at once
abbrev pub behind_value : Form → ShapePlace
behind_value Block = AtField Block
behind_value Braces = BehindField

-- behind the Value of a field
abbrev pub holds : Form → Field → ShapePlace
holds g Sample = AtText g
holds g Panel = AtText g
holds g Seeds = AtList g

-- 70: a field met before
abbrev pub meets : Form → Met → Field → Effect
meets g m f = pick (has m f) (Refuses 70) (Passes (AtValue g f) (adds f m))

-- or unknown
unfoldable pub named : Form → Met → List ℕ → Effect
named g m ds =
    pick (same ds (spelled Sample)) (meets g m Sample)
    (pick (same ds (spelled Panel)) (meets g m Panel) (pick (same ds (spelled Seeds)) (meets g m Seeds) (Refuses 70)))

-- 72: no such plain number
unfoldable pub seed_of : Form → Met → Sight → Effect
seed_of g m v =
    pick (eqb v.style (style_number Plain) && is_number v.text) (Hands (value_from 0 v.text) (BehindSeed g) m) (Refuses 72)

-- the token that has its place here, and where it leads; 73: any other
abbrev pub wants : Kind → ShapePlace → Met → Sight → Effect → Effect
wants k p m v else = pick (is k v) (Passes p m) else

abbrev pub no_place : Effect
no_place = Refuses 73

unfoldable pub placed : ShapePlace → Met → Sight → Effect
placed AtStart m v = wants StreamStart AtMapping m v no_place
placed AtMapping m v = wants BlockMappingStart (AtField Block) m v (wants FlowMappingStart (AtField Braces) m v no_place)
placed (AtField g) m v = wants Key (AtName g) m v (wants (end_of g) AtEnd m v no_place)
placed (AtName g) m v = pick (is_scalar v) (named g m v.text) no_place
placed (AtValue g f) m v = wants Value (holds g f) m v no_place
placed (AtText g) m v = wants (Scalar Plain []) (behind_value g) m v no_place
placed (AtList g) m v = wants FlowSequenceStart (AtEntry g) m v no_place
placed (AtEntry g) m v = pick (is_scalar v) (seed_of g m v) (wants FlowSequenceEnd (behind_value g) m v no_place)
placed (BehindSeed g) m v = wants FlowEntry (AtEntry g) m v (wants FlowSequenceEnd (behind_value g) m v no_place)
placed BehindField m v = wants FlowEntry (AtField Braces) m v (wants FlowMappingEnd AtEnd m v no_place)
placed AtEnd m v = pick (is StreamEnd v) Finishes no_place

-- 71: StreamEnd with a field missing, wherever it stands
unfoldable pub effect : ShapePlace → Met → Sight → Effect
effect p m v = pick (is StreamEnd v && not (all_met m)) (Refuses 71) (placed p m v)

-- the calls

-- between two calls: the stream, the place, the fields met and the count of seeds; or closed for ever
pub data Job : Type 0 where
  reading : Stream → ShapePlace → Met → ℕ → Job
  closed : Closing → Job

pub record JobCalled : Type 0 where
  pub answer : JobAnswer
  pub job : Job

abbrev pub job_called : JobAnswer → Job → JobCalled
job_called a j = record { answer = a; job = j }

abbrev pub closes : Closing → JobCalled
closes c = job_called (Closed c) (closed c)

abbrev pub by_effect : Effect → Mark → Stream → ℕ → (ShapePlace → Met → JobCalled) → JobCalled
by_effect (Passes p m) k x n go = go p m
by_effect (Hands v p m) k x n go = job_called (Seed v (suc n)) (reading x p m (suc n))
by_effect (Refuses r) k x n go = closes (NotDone r k n)
by_effect Finishes k x n go = closes (Done n)

abbrev pub by_answer : Next → Stream → ShapePlace → Met → ℕ → (ShapePlace → Met → JobCalled) → JobCalled
by_answer (token t) x p m n go = by_effect (effect p m (sight t)) t.start x n go
by_answer (refusal r k) x p m n go = closes (NotDone r k n)
by_answer ended x p m n go = job_called Lost (reading x p m n)
by_answer spent x p m n go = job_called Lost (reading x p m n)

-- ask for tokens, so many at most, until a seed is handed over or the job closes
unfoldable pub asks : Limits → ℕ → ℕ → Stream → ShapePlace → Met → ℕ → JobCalled
asks limits room zero x p m n = job_called Lost (reading x p m n)
asks limits room (suc k) x p m n =
    let c = call limits room x in
    by_answer c.answer c.stream p m n (λ q l. asks limits room k c.stream q l n)

-- fewer than 24 tokens of the shape come with no seed between them
abbrev pub most_asked : ℕ
most_asked = 24

unfoldable pub job_call : Limits → ℕ → Job → JobCalled
job_call limits room (reading x p m n) = asks limits room most_asked x p m n
job_call limits room (closed c) = closes c

unfoldable pub job : Limits → List ℕ → ℕ → Job
job limits bytes words = reading (fresh limits bytes words) AtStart none_met 0

-- the seeds that at most k calls hand over, each with its count, and what comes behind them
pub record Talk : Type 0 where
  pub handed : List (ℕ × ℕ)
  pub last : JobAnswer

abbrev pub talk : List (ℕ × ℕ) → JobAnswer → Talk
talk ss a = record { handed = ss; last = a }

abbrev pub on_said : JobCalled → (Job → Talk) → Talk
on_said a go = elim a.answer [
  | Seed v n ↦ let r = go a.job in talk ((v, n) ∷ r.handed) r.last
  | Closed c ↦ talk [] (Closed c)
  | Lost ↦ talk [] Lost
]

unfoldable pub follow : Limits → ℕ → ℕ → Job → Talk
follow limits room zero j = talk [] Lost
follow limits room (suc k) j = on_said (job_call limits room j) (λ i. follow limits room k i)
