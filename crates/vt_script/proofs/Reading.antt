-- The first line of an input that is read piece by piece.
use Rattle.std.proofs.Common.{◌≡◌, ℕ, ◌+◌, ◌<◌, ◌≤◌, ◌-◌, Bool, true, false, List, [], ◌∷◌, ◌++◌, length, take, drop, refl, sym, ap, ◌∙◌, Some, None, Option, arith, cond, not, append_assoc, subst}
use Rattle.std.specs.Prelude.{nat_lt, ◌==◌}
use Rattle.std.specs.List.{position, slice_range}
use Rattle.std.specs.Io.KnownBytes.{prepend_known, Consumes, Keeps}
use Rattle.std.proofs.lemmas.List.{length-append, length-take, length-drop, take-append-le, take-append-drop, take-take, drop-append-le, drop-drop, drop-take, take_all}
use Rattle.std.proofs.Math.ListN.{drop_of_length-le}
use Rattle.std.proofs.lemmas.List.Sums.{prefix_len-le-length}
use Rattle.std.proofs.lemmas.List.Folds.{prefix_len-append}
use Rattle.std.proofs.lemmas.List.Splits.{slice_split_first}
use Rattle.std.proofs.lemmas.Bool.Decides.{nat_tests}
use Rattle.vt_script.specs.Script.{parts_of, without_empty_end, lines_of}
use Rattle.vt_script.specs.Reading.{line_length, first_line, after_line, has_line, Says}
use Rattle.vt_script.specs.declared.line_reader.Next.TheVariants.{Line, TooLong, TooMany}
use Rattle.vt_script.proofs.Cuts.{lines-more, no_separator}

pub length_within : (bytes : List ℕ) → line_length bytes ≤ length bytes
length_within bytes = prefix_len-le-length (λ b. not (b == 10)) bytes

pub there : (bytes : List ℕ) → has_line bytes ≡ true → line_length bytes < length bytes
there bytes h = grind (arith, nat_tests, h)

pub not_there : (bytes : List ℕ) → has_line bytes ≡ false → line_length bytes ≡ length bytes
not_there bytes h = let le = length_within bytes in let ge : length bytes ≤ line_length bytes = grind (arith, nat_tests, h) in omega arith

-- where the first line is there, what follows changes nothing
pub line_in_front : (bytes more : List ℕ) → line_length bytes < length bytes → line_length (bytes ++ more) ≡ line_length bytes
line_in_front bytes more lt = prefix_len-append (λ b. not (b == 10)) bytes more ∙ grind (arith, nat_tests, lt)

-- where it isn't, it goes on behind them
pub line_goes_on : (bytes more : List ℕ) → line_length bytes ≡ length bytes → line_length (bytes ++ more) ≡ length bytes + line_length more
line_goes_on bytes more is = prefix_len-append (λ b. not (b == 10)) bytes more ∙ grind (arith, nat_tests, is)

-- a last line without LF
last_line : (rest : List ℕ) → 0 < length rest → without_empty_end (rest ∷ []) ≡ rest ∷ []
last_line [] some = absurd (omega (arith, some))
last_line (x ∷ xs) some = refl

-- the first line comes first
pub first_line_comes_first : (rest : List ℕ) → 0 < length rest → lines_of rest ≡ first_line rest ∷ lines_of (after_line rest)
first_line_comes_first rest some = go (has_line rest) refl
  where
    ended : line_length rest < length rest → lines_of rest ≡ first_line rest ∷ lines_of (after_line rest)
    ended lt = lines-more rest (first_line rest) (after_line rest) (slice_split_first (λ b. b == 10) rest 0 lt)

    unended : line_length rest ≡ length rest → lines_of rest ≡ first_line rest ∷ lines_of (after_line rest)
    unended is =
        let le : length rest ≤ line_length rest = omega (arith, is) in
        let parts : parts_of 10 rest ≡ rest ∷ [] = no_separator 10 rest le in
        let all : first_line rest ≡ rest = take_all (line_length rest) rest le in
        let past : length rest ≤ line_length rest + 1 = omega arith in
        let none : after_line rest ≡ [] = drop_of_length-le rest past in
        ap without_empty_end parts ∙ last_line rest some ∙ sym (rw (all, none) refl)

    go : (test : Bool) → has_line rest ≡ test → lines_of rest ≡ first_line rest ∷ lines_of (after_line rest)
    go true is = ended (there rest is)
    go false is = unended (not_there rest is)

-- a line that was read with its LF
pub says_line : (given : ℕ) (pending left line after : List ℕ) → given < 1000000 → line_length pending < length pending → length pending ≤ 8257
    → line ≡ first_line pending → after ≡ after_line pending → Says Line given (pending ++ left) line (after ++ left)
says_line given pending left line after more lt few is_line is_after =
    let same : line_length (pending ++ left) ≡ line_length pending = line_in_front pending left lt in
    let le : line_length pending ≤ length pending = omega arith in
    let past : line_length pending + 1 ≤ length pending = omega arith in
    let first : first_line (pending ++ left) ≡ line = rw same (take-append-le (line_length pending) pending left le ∙ sym is_line) in
    let behind : after_line (pending ++ left) ≡ after ++ left = rw same (drop-append-le (line_length pending + 1) pending left past ∙ ap (λ t. t ++ left) (sym is_after)) in
    let some : 0 < length (pending ++ left) = omega (arith, length-append pending left) in
    let short : length line ≤ 8256 = omega (arith, few, ap length is_line, length-take (line_length pending) pending) in
    (more, first_line_comes_first (pending ++ left) some ∙ rw (first, behind) refl, short, sym first, sym behind)

-- too many bytes without LF
pub says_long : (given number : ℕ) (pending left line : List ℕ) → number ≡ given + 1 → given < 1000000 → line_length pending ≡ length pending → 8256 < length pending
    → Says (TooLong number) given (pending ++ left) line (pending ++ left)
says_long given number pending left line next more is many =
    let on : line_length (pending ++ left) ≡ length pending + line_length left = line_goes_on pending left is in
    let le : line_length left ≤ length left = length_within left in
    let some : 0 < length (pending ++ left) = omega (arith, length-append pending left) in
    let long : 8256 < length (first_line (pending ++ left)) = omega (arith, length-take (line_length (pending ++ left)) (pending ++ left), length-append pending left) in
    (more, first_line_comes_first (pending ++ left) some, long, next, refl)

-- a byte behind the last line that may be
pub says_many : (given : ℕ) (pending left line : List ℕ) → 1000000 ≤ given → 0 < length pending → Says TooMany given (pending ++ left) line (pending ++ left)
says_many given pending left line full some =
    let any : 0 < length (pending ++ left) = omega (arith, length-append pending left) in
    (full, omega (arith, ap length (first_line_comes_first (pending ++ left) any)), refl)

-- a last line without LF
pub says_last : (given : ℕ) (pending : List ℕ) → given < 1000000 → line_length pending ≡ length pending → 0 < length pending → length pending ≤ 8256
    → Says Line given pending pending []
says_last given pending more is some short =
    let le : length pending ≤ line_length pending = omega (arith, is) in
    let past : length pending ≤ line_length pending + 1 = omega arith in
    let all : first_line pending ≡ pending = take_all (line_length pending) pending le in
    let none : after_line pending ≡ [] = drop_of_length-le pending past in
    (more, first_line_comes_first pending some ∙ rw (all, none) refl, short, sym all, sym none)

pub says_last_line : (given : ℕ) (pending line after : List ℕ) → line ≡ pending → after ≡ [] → given < 1000000 → line_length pending ≡ length pending
    → 0 < length pending → length pending ≤ 8256 → Says Line given pending line after
says_last_line given pending line after is_line is_after more is some short = rw (is_line, is_after) (says_last given pending more is some short)

-- ---- a source whose bytes are known

-- what a read took is pending
pub keeps_read : (old new : Option (List ℕ)) (pending got : List ℕ) → Consumes old new got → Keeps (prepend_known pending old) (prepend_known (pending ++ got) new)
keeps_read None new pending got takes = tt
keeps_read (Some xs) None pending got takes = absurd takes
keeps_read (Some xs) (Some ys) pending got takes = append_assoc pending got ys ∙ ap (λ t. pending ++ t) (sym takes)

-- ---- in the buffer

pub place_found : (bytes : List ℕ) (at : ℕ) → position (λ b. b == 10) bytes ≡ Some at → at ≡ line_length bytes
place_found bytes at found = grind (arith, nat_tests, found)

pub none_found : (bytes : List ℕ) → position (λ b. b == 10) bytes ≡ None → length bytes ≡ line_length bytes
none_found bytes none = let le = length_within bytes in far (line_length bytes) (length bytes) le none
  where
    far : (n most : ℕ) → n ≤ most → cond (nat_lt n most) (Some n) None ≡ None → most ≡ n
    far n most le h = grind (arith, nat_tests, h)

-- how many bytes a part of the buffer has
pub part_length : (buffer : List ℕ) (start end : ℕ) → end ≤ length buffer → length (slice_range buffer start end) ≡ end - start
part_length buffer start end le = omega (arith, length-take (end - start) (drop start buffer), length-drop start buffer)

-- the end of a part
pub part_behind : (buffer : List ℕ) (start n middle end : ℕ) → middle ≡ start + n → middle ≤ end → slice_range buffer middle end ≡ drop n (slice_range buffer start end)
part_behind buffer start n middle end is le =
    let parts : end - start ≡ n + (end - middle) = omega arith in
    sym (ap (λ k. drop n (take k (drop start buffer))) parts ∙ drop-take n (end - middle) (drop start buffer) ∙ ap (take (end - middle)) (drop-drop n start buffer ∙ ap (λ k. drop k buffer) (sym is)))

-- its beginning
pub part_in_front : (buffer : List ℕ) (start n middle end : ℕ) → middle ≡ start + n → middle ≤ end → slice_range buffer start middle ≡ take n (slice_range buffer start end)
part_in_front buffer start n middle end is le =
    let count : middle - start ≡ n = omega arith in
    let few : n ≤ end - start = omega arith in
    ap (λ k. take k (drop start buffer)) count ∙ sym (take-take n (end - start) (drop start buffer) few)

-- two parts that meet
pub parts_meet : (buffer : List ℕ) (kept end : ℕ) → kept ≤ end → slice_range buffer 0 end ≡ slice_range buffer 0 kept ++ slice_range buffer kept end
parts_meet buffer kept end le =
    let front : slice_range buffer 0 kept ≡ take kept (slice_range buffer 0 end) = part_in_front buffer 0 kept kept end (omega arith) le in
    let behind : slice_range buffer kept end ≡ drop kept (slice_range buffer 0 end) = part_behind buffer 0 kept kept end (omega arith) le in
    sym (ap (λ t. t ++ slice_range buffer kept end) front ∙ ap (λ t. take kept (slice_range buffer 0 end) ++ t) behind ∙ take-append-drop kept (slice_range buffer 0 end))

-- where the first LF stands, if it is there
pub feed_within : (buffer pending : List ℕ) (start feed end : ℕ) → end ≤ length buffer → start ≤ end → slice_range buffer start end ≡ pending
    → feed ≡ start + line_length (slice_range buffer start end) → has_line pending ≡ true → feed < end
feed_within buffer pending start feed end fits order is at whole =
    let lt = there pending whole in
    let size = part_length buffer start end fits in
    omega (arith, lt, size, at, ap line_length is, ap length is)

-- and if it isn't
pub feed_at_end : (buffer pending : List ℕ) (start feed end : ℕ) → end ≤ length buffer → start ≤ end → slice_range buffer start end ≡ pending
    → feed ≡ start + line_length (slice_range buffer start end) → has_line pending ≡ false → feed ≡ end
feed_at_end buffer pending start feed end fits order is at none =
    let eq = not_there pending none in
    let size = part_length buffer start end fits in
    omega (arith, eq, size, at, ap line_length is, ap length is)

-- an empty part
pub empty_part : (buffer : List ℕ) (end : ℕ) → slice_range buffer end end ≡ []
empty_part buffer end = let none : end - end ≡ 0 = omega arith in ap (λ k. take k (drop end buffer)) none

-- what was read stands behind what was kept
pub kept_and_read : (buffer pending : List ℕ) (kept end : ℕ) → kept ≤ end → slice_range buffer 0 kept ≡ pending → slice_range buffer 0 end ≡ pending ++ slice_range buffer kept end
kept_and_read buffer pending kept end le is = parts_meet buffer kept end le ∙ ap (λ t. t ++ slice_range buffer kept end) is

-- and there the first LF is looked for
pub feed_goes_on : (buffer pending : List ℕ) (kept end : ℕ) → kept ≤ end → slice_range buffer 0 kept ≡ pending → length pending ≡ kept → has_line pending ≡ false
    → kept + line_length (slice_range buffer kept end) ≡ line_length (slice_range buffer 0 end)
feed_goes_on buffer pending kept end le is size none =
    let on = line_goes_on pending (slice_range buffer kept end) (not_there pending none) in
    omega (arith, on, size, ap line_length (kept_and_read buffer pending kept end le is))

-- what a read took is pending
pub keeps_part : (old new : Option (List ℕ)) (buffer pending : List ℕ) (kept end : ℕ) → kept ≤ end → slice_range buffer 0 kept ≡ pending
    → Consumes old new (slice_range buffer kept end) → Keeps (prepend_known pending old) (prepend_known (slice_range buffer 0 end) new)
keeps_part old new buffer pending kept end le is takes =
    subst (λ t. Keeps (prepend_known pending old) (prepend_known t new)) (sym (kept_and_read buffer pending kept end le is)) (keeps_read old new pending (slice_range buffer kept end) takes)
