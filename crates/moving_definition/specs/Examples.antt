-- Computed examples of the moving totals.
use Rattle.std.specs.Prelude.{◌≡◌, refl, [], ◌∷◌, replicate}
use Rattle.moving_definition.specs.Moving.{total, totals, refused, outcome, moved, said_of}

-- ---- "for each leg from the W-th on, the total of the last W, with the largest total and its first place among them, from 0"

-- the season of scenes/season.counts, its first six legs, by threes: the legs from the third on; two totals are the largest, and the first counts
threes : moved (3 ∷ 0 ∷ 2 ∷ 5 ∷ 1 ∷ 2 ∷ []) 3 (9 ∷ 9 ∷ 9 ∷ 9 ∷ 9 ∷ []) ≡ (record { refusal = 0; count = 4; largest = 8; place = 2 }, 5 ∷ 7 ∷ 8 ∷ 8 ∷ 9 ∷ [])
unfolding moved outcome totals total
threes = refl

-- a width of 1: the counts themselves
ones : moved (3 ∷ 0 ∷ 2 ∷ []) 1 (9 ∷ 9 ∷ 9 ∷ []) ≡ (record { refusal = 0; count = 3; largest = 3; place = 0 }, 3 ∷ 0 ∷ 2 ∷ [])
unfolding moved outcome totals total
ones = refl

-- a run of exactly W legs: one total
whole : moved (3 ∷ 0 ∷ 2 ∷ []) 3 (9 ∷ 9 ∷ []) ≡ (record { refusal = 0; count = 1; largest = 5; place = 0 }, 5 ∷ 9 ∷ [])
unfolding moved outcome totals total
whole = refl

-- nothing but zeros: the largest is 0, at place 0
zeros : moved (0 ∷ 0 ∷ 0 ∷ []) 2 (9 ∷ 9 ∷ []) ≡ (record { refusal = 0; count = 2; largest = 0; place = 0 }, 0 ∷ 0 ∷ [])
unfolding moved outcome totals total
zeros = refl

-- 64 counts of 4,294,967,295, the largest width and the largest count: below 2^38
most : moved (replicate 65 4294967295) 64 (9 ∷ 9 ∷ []) ≡ (record { refusal = 0; count = 2; largest = 274877906880; place = 0 }, 274877906880 ∷ 274877906880 ∷ [])
unfolding moved outcome totals total
most = refl

-- ---- "A run shorter than W gives no totals, and largest and place 0."

shorter : moved (3 ∷ 4 ∷ []) 3 (9 ∷ []) ≡ (record { refusal = 0; count = 0; largest = 0; place = 0 }, 9 ∷ [])
unfolding moved outcome totals total
shorter = refl

-- an empty run is accepted with each W, and no total need be lent
empty : moved [] 1 [] ≡ (record { refusal = 0; count = 0; largest = 0; place = 0 }, [])
unfolding moved outcome totals total
empty = refl

empty_widest : moved [] 64 (9 ∷ []) ≡ (record { refusal = 0; count = 0; largest = 0; place = 0 }, 9 ∷ [])
unfolding moved outcome totals total
empty_widest = refl

-- ---- "Refused: 25, W outside 1 to 64; 26, a count over 4,294,967,295; 27, too few lent totals."

width_0 : moved (3 ∷ 4 ∷ []) 0 (9 ∷ 9 ∷ []) ≡ (refused 25, 9 ∷ 9 ∷ [])
unfolding moved outcome
width_0 = refl

width_65 : moved (3 ∷ 4 ∷ []) 65 (9 ∷ []) ≡ (refused 25, 9 ∷ [])
unfolding moved outcome
width_65 = refl

-- the last leg's count is one too large
one_over : moved (3 ∷ 4294967296 ∷ []) 1 (9 ∷ 9 ∷ []) ≡ (refused 26, 9 ∷ 9 ∷ [])
unfolding moved outcome
one_over = refl

one_short : moved (3 ∷ 4 ∷ 5 ∷ []) 2 (9 ∷ []) ≡ (refused 27, 9 ∷ [])
unfolding moved outcome
one_short = refl

-- ---- 25 before 26 before 27, whatever the run's length

all_three : moved (4294967296 ∷ 1 ∷ []) 0 [] ≡ (refused 25, [])
unfolding moved outcome
all_three = refl

last_two : moved (4294967296 ∷ 1 ∷ []) 1 [] ≡ (refused 26, [])
unfolding moved outcome
last_two = refl

-- a run shorter than the width is refused for its count too
short_and_over : moved (4294967296 ∷ []) 2 [] ≡ (refused 26, [])
unfolding moved outcome
short_and_over = refl

empty_and_wide : moved [] 65 [] ≡ (refused 25, [])
unfolding moved outcome
empty_and_wide = refl

-- ---- the words of the answer: "refusal, totals, largest, place"

said : said_of (moved (3 ∷ 0 ∷ 2 ∷ 5 ∷ []) 2 (9 ∷ 9 ∷ 9 ∷ 9 ∷ [])) ≡ record { refusal = 0; numbers = 3 ∷ 7 ∷ 2 ∷ []; lent = 3 ∷ 2 ∷ 7 ∷ 9 ∷ [] }
unfolding moved outcome totals total
said = refl
