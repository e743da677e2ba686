-- How the open places of Ask 14 are read: the smallest text of each, computed; `one` is 14.1. The seeds handed over, then the closing record.
use Rattle.std.specs.Prelude.{◌*◌, ℕ, List, [], ◌∷◌, ◌≡◌, refl}
use Rattle.yaml_lexeme.specs.Record.{record_words}
use Rattle.yaml_scan.specs.Scan.{standard}
use Rattle.yaml_scan.specs.Open.{all_open}
use Rattle.yaml_stream.specs.Stream.{least_records}
use Rattle.yaml_stream.specs.Open.{stream_open}
use Rattle.yaml_job.specs.declared.Closing.{Closing}
use Rattle.yaml_job.specs.declared.Closing.TheVariants.{Done, NotDone}
use Rattle.yaml_job.specs.declared.JobAnswer.TheVariants.{Closed}
use Rattle.yaml_job.specs.Job.{Talk, follow, job, talk}
use Rattle.yaml_job.specs.Open.{job_open}

-- words for 4,400 records
abbrev pub ample : ℕ
ample = least_records * record_words

-- with 99 bytes: 3 calls
abbrev pub read_job : List ℕ → Talk
read_job text = follow standard 99 3 (job standard text ample)

abbrev job_ends : List (ℕ × ℕ) → Closing → Talk
job_ends ss c = talk ss (Closed c)

abbrev refused_at : ℕ → ℕ → ℕ → ℕ → ℕ → Closing
refused_at n index line col count = NotDone n (record { index = index; line = line; col = col }) count

-- `sample: `, `panel: `, `seeds: [` and what comes behind
abbrev sample_is : List ℕ → List ℕ
sample_is cs = 115 ∷ 97 ∷ 109 ∷ 112 ∷ 108 ∷ 101 ∷ 58 ∷ 32 ∷ cs

abbrev panel_is : List ℕ → List ℕ
panel_is cs = 112 ∷ 97 ∷ 110 ∷ 101 ∷ 108 ∷ 58 ∷ 32 ∷ cs

abbrev seeds_are : List ℕ → List ℕ
seeds_are cs = 115 ∷ 101 ∷ 101 ∷ 100 ∷ 115 ∷ 58 ∷ 32 ∷ 91 ∷ cs

-- `---`: no place for a document marker
pub one : read_job (45 ∷ 45 ∷ 45 ∷ []) ≡ job_ends [] (refused_at 73 0 1 0 0)
unfolding all_open stream_open job_open
one = refl

-- `{}`: braces are a mapping
pub two : read_job (123 ∷ 125 ∷ []) ≡ job_ends [] (refused_at 71 2 2 0 0)
unfolding all_open stream_open job_open
two = refl

-- `{sample: a,}`: a comma at the end is read over, and the fields are missing at StreamEnd
pub two_b : read_job (123 ∷ sample_is (97 ∷ 44 ∷ 125 ∷ [])) ≡ job_ends [] (refused_at 71 12 2 0 0)
unfolding all_open stream_open job_open
two_b = refl

-- the empty text: no mapping came
pub three : read_job [] ≡ job_ends [] (refused_at 71 0 1 0 0)
unfolding all_open stream_open job_open
three = refl

-- `'sample': a`: a name in any style
pub four : read_job (39 ∷ 115 ∷ 97 ∷ 109 ∷ 112 ∷ 108 ∷ 101 ∷ 39 ∷ 58 ∷ 32 ∷ 97 ∷ []) ≡ job_ends [] (refused_at 71 11 2 0 0)
unfolding all_open stream_open job_open
four = refl

-- `seeds: [1]⏎"seeds": [2]`: the same name in another style is met again, behind a seed handed over
pub four_b : read_job (seeds_are (49 ∷ 93 ∷ 10 ∷ 34 ∷ 115 ∷ 101 ∷ 101 ∷ 100 ∷ 115 ∷ 34 ∷ 58 ∷ 32 ∷ 91 ∷ 50 ∷ 93 ∷ []))
    ≡ job_ends ((1, 1) ∷ []) (refused_at 70 11 2 0 1)
unfolding all_open stream_open job_open
four_b = refl

-- `? x`: at the name, not at the Key
pub five : read_job (63 ∷ 32 ∷ 120 ∷ []) ≡ job_ends [] (refused_at 70 2 1 2 0)
unfolding all_open stream_open job_open
five = refl

-- `x: @`: before anything of the value
pub five_b : read_job (120 ∷ 58 ∷ 32 ∷ 64 ∷ []) ≡ job_ends [] (refused_at 70 0 1 0 0)
unfolding all_open stream_open job_open
five_b = refl

-- `: a`: no Key
pub six : read_job (58 ∷ 32 ∷ 97 ∷ []) ≡ job_ends [] (refused_at 73 0 1 0 0)
unfolding all_open stream_open job_open
six = refl

-- `{sample}`: no Key
pub six_b : read_job (123 ∷ 115 ∷ 97 ∷ 109 ∷ 112 ∷ 108 ∷ 101 ∷ 125 ∷ []) ≡ job_ends [] (refused_at 73 1 1 1 0)
unfolding all_open stream_open job_open
six_b = refl

-- `[sample]: a`
pub six_c : read_job (91 ∷ 115 ∷ 97 ∷ 109 ∷ 112 ∷ 108 ∷ 101 ∷ 93 ∷ 58 ∷ 32 ∷ 97 ∷ []) ≡ job_ends [] (refused_at 73 0 1 0 0)
unfolding all_open stream_open job_open
six_c = refl

-- `sample: ''`: one scalar, empty too
pub seven : read_job (sample_is (39 ∷ 39 ∷ [])) ≡ job_ends [] (refused_at 71 10 2 0 0)
unfolding all_open stream_open job_open
seven = refl

-- `sample:`: nothing is no scalar: at the BlockEnd
pub eight : read_job (115 ∷ 97 ∷ 109 ∷ 112 ∷ 108 ∷ 101 ∷ 58 ∷ []) ≡ job_ends [] (refused_at 73 7 2 0 0)
unfolding all_open stream_open job_open
eight = refl

-- `sample: &a b`: no place for an anchor
pub nine : read_job (sample_is (38 ∷ 97 ∷ 32 ∷ 98 ∷ [])) ≡ job_ends [] (refused_at 73 8 1 8 0)
unfolding all_open stream_open job_open
nine = refl

-- `seeds: 1`: no list
pub ten : read_job (115 ∷ 101 ∷ 101 ∷ 100 ∷ 115 ∷ 58 ∷ 32 ∷ 49 ∷ []) ≡ job_ends [] (refused_at 73 7 1 7 0)
unfolding all_open stream_open job_open
ten = refl

-- `seeds: ['1']`: not plain
pub eleven : read_job (seeds_are (39 ∷ 49 ∷ 39 ∷ 93 ∷ [])) ≡ job_ends [] (refused_at 72 8 1 8 0)
unfolding all_open stream_open job_open
eleven = refl

-- `seeds: [007]`: a leading zero
pub eleven_b : read_job (seeds_are (48 ∷ 48 ∷ 55 ∷ 93 ∷ [])) ≡ job_ends [] (refused_at 72 8 1 8 0)
unfolding all_open stream_open job_open
eleven_b = refl

-- `sample: a⏎panel: b⏎seeds: []`: an empty list is a list
pub twelve : read_job (sample_is (97 ∷ 10 ∷ panel_is (98 ∷ 10 ∷ seeds_are (93 ∷ [])))) ≡ job_ends [] (Done 0)
unfolding all_open stream_open job_open
twelve = refl

-- `seeds: [,]`: a comma stands behind a seed only
pub thirteen : read_job (seeds_are (44 ∷ 93 ∷ [])) ≡ job_ends [] (refused_at 73 8 1 8 0)
unfolding all_open stream_open job_open
thirteen = refl

-- `seeds: [1,,2]`
pub thirteen_b : read_job (seeds_are (49 ∷ 44 ∷ 44 ∷ 50 ∷ 93 ∷ [])) ≡ job_ends ((1, 1) ∷ []) (refused_at 73 10 1 10 1)
unfolding all_open stream_open job_open
thirteen_b = refl

-- `seeds: [1: 2]`: at the FlowMappingStart before the 1
pub fourteen : read_job (seeds_are (49 ∷ 58 ∷ 32 ∷ 50 ∷ 93 ∷ [])) ≡ job_ends [] (refused_at 73 8 1 8 0)
unfolding all_open stream_open job_open
fourteen = refl

-- `seeds: [1 #⏎ x]`: two scalars and no comma
pub fifteen : read_job (seeds_are (49 ∷ 32 ∷ 35 ∷ 10 ∷ 32 ∷ 120 ∷ 93 ∷ [])) ≡ job_ends ((1, 1) ∷ []) (refused_at 73 13 2 1 1)
unfolding all_open stream_open job_open
fifteen = refl

-- `seeds: [1, 2`: the 2 still waits when the rule is broken
pub sixteen : read_job (seeds_are (49 ∷ 44 ∷ 32 ∷ 50 ∷ [])) ≡ job_ends ((1, 1) ∷ []) (refused_at 47 12 1 12 1)
unfolding all_open stream_open job_open
sixteen = refl

-- `seeds: [x, @]`: met first
pub seventeen : read_job (seeds_are (120 ∷ 44 ∷ 32 ∷ 64 ∷ 93 ∷ [])) ≡ job_ends [] (refused_at 72 8 1 8 0)
unfolding all_open stream_open job_open
seventeen = refl

-- `{seeds: [0, 4294967295,], panel: b, sample: a}`: in braces, in any order, a comma at the end
abbrev pub in_braces : List ℕ
in_braces =
    123 ∷ seeds_are (48 ∷ 44 ∷ 32 ∷ 52 ∷ 50 ∷ 57 ∷ 52 ∷ 57 ∷ 54 ∷ 55 ∷ 50 ∷ 57 ∷ 53 ∷ 44 ∷ 93 ∷ 44 ∷ 32 ∷ panel_is (98 ∷ 44 ∷ 32 ∷ sample_is (97 ∷ 125 ∷ [])))

pub more : read_job in_braces ≡ job_ends ((0, 1) ∷ (4_294_967_295, 2) ∷ []) (Done 2)
unfolding all_open stream_open job_open
more = refl

-- `sample: a⏎panel: b⏎seeds: [4294967296]`: one too many
pub more_b : read_job (sample_is (97 ∷ 10 ∷ panel_is (98 ∷ 10 ∷ seeds_are (52 ∷ 50 ∷ 57 ∷ 52 ∷ 57 ∷ 54 ∷ 55 ∷ 50 ∷ 57 ∷ 54 ∷ 93 ∷ []))))
    ≡ job_ends [] (refused_at 72 27 3 8 0)
unfolding all_open stream_open job_open
more_b = refl
