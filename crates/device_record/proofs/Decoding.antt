-- What the layout says of whole records: a header and the content behind it.
use Rattle.std.proofs.Common.{◌≡◌, ℕ, ◌+◌, ◌<◌, ◌≤◌, ◌^◌, Bool, true, false, cond, eqb, ◌&&◌, ◌||◌, not, List, [], ◌∷◌, ◌++◌, length, take, drop, Option, Some, None, Ok, find, refl, sym, ap, subst, ◌∙◌, arith}
use Rattle.std.specs.Prelude.{nat_lt}
use Rattle.std.specs.List.{list_all}
use Rattle.std.proofs.lemmas.Bool.{eqb-true, eq-eqb}
use Rattle.std.proofs.lemmas.Bool.Decides.{nat_tests}
use Rattle.std.proofs.lemmas.List.{length-drop, take_all, drop_all}
use Rattle.vt_base.specs.Numbers.{IsBytes, short, number, long}
use Rattle.vt_base.specs.Layout.{Layout, Ends, Encodes, byte_then, short_then, long_then}
use Rattle.vt_base.specs.Magics.{magic_then}
use Rattle.vt_base.specs.Refusing.{malformed, refuse, magic_byte_then}
use Rattle.std.proofs.lemmas.Nat.{from_be_bytes-to_be_bytes_2, from_be_bytes-to_be_bytes_8}
use Rattle.std.specs.Int.{w16, w64, from_be_bytes}
use Rattle.vt_base.proofs.Numbers.{encodes_number, encodes_field}
use Rattle.vt_base.proofs.Magics.{magic_byte_encodes, magic_encode}
use Rattle.vt_base.proofs.Prefixes.{byte_prefix, number_prefix, long_prefix, short_prefix, not_refused, magic_byte_prefix, found}
use Rattle.vt_base.specs.declared.types.Why.TheVariants.{Magic, Version, Length, Value}
use Rattle.crb_regs.specs.Registers.{is_idle, is_executing, is_lost}
use Rattle.crb_regs.specs.declared.phase.Phase.{Phase}
use Rattle.crb_regs.specs.declared.phase.Phase.TheVariants.{Idle, Ready, Reception, Execution, Completion, Lost}
use Rattle.crb_regs.specs.declared.registers.Regs.{Regs}
use Rattle.device_record.specs.declared.fields.Fields.{Fields}
use Rattle.device_record.specs.Records.{magic, flag_byte, flag_at, phase_code, phase_at, phases, encode_header}
use Rattle.device_record.specs.Layouts.{Ending, value_then, flag_then, ends_in_zero, content_then, count_then, job_then, registers_then, length_then, record_layout}

-- fields and the content behind them that make a record
pub record AreWhole (f : Fields) (content : List ℕ) : Type 0 where
  pub working : is_lost f.regs.phase ≡ false
  pub waits : f.cancelled ≡ true → is_executing f.regs.phase ≡ true
  pub number : f.number < 2 ^ 64
  pub count : f.count ≤ 3968
  pub idle : is_idle f.regs.phase ≡ true → f.count ≡ 0
  pub size : length content ≡ f.count
  pub trimmed : ends_in_zero content ≡ false
  pub bytes : IsBytes content

-- a value that wasn't refused
pub record Valued {X : Type 0} (found : Option X) (next : X → Layout Ending) (end : Ending) (bytes : List ℕ) : Type 0 where
  pub value : X
  pub is : found ≡ Some value
  pub spelled : Encodes (next value) end bytes

value_decoded : {X : Type 0} (found : Option X) (place : ℕ) (next : X → Layout Ending) (f : Fields) (bytes : List ℕ) → Encodes (value_then found place next) (Ok f) bytes → Valued found next (Ok f) bytes
value_decoded None place next f bytes spelled = absurd cc
value_decoded (Some value) place next f bytes spelled = record { value = value; is = refl; spelled = spelled }

-- a flag at the start
pub record Flagged (next : Bool → Layout Ending) (end : Ending) (bytes : List ℕ) : Type 0 where
  pub value : Bool
  pub rest : List ℕ
  pub parts : bytes ≡ flag_byte value ∷ rest
  pub fits : IsBytes rest
  pub spelled : Encodes (next value) end rest

flag_decoded : (place : ℕ) (next : Bool → Layout Ending) (f : Fields) (bytes : List ℕ) → IsBytes bytes → Encodes (flag_then place next) (Ok f) bytes → Flagged next (Ok f) bytes
flag_decoded place next f bytes fits spelled =
    let b = byte_prefix (λ byte. value_then (flag_at byte) place next) (Ok f) bytes fits spelled in
    let v = value_decoded (flag_at b.value) place next f b.rest b.spelled in
    let same = eqb-true _ _ (found (λ (flag : Bool). eqb (flag_byte flag) b.value) (false ∷ true ∷ []) v.value v.is) in
    record { value = v.value; rest = b.rest; parts = b.parts ∙ ap (λ (x : ℕ). x ∷ b.rest) (sym same); fits = b.fits; spelled = v.spelled }

-- a phase at the start
pub record Phased (next : Phase → Layout Ending) (end : Ending) (bytes : List ℕ) : Type 0 where
  pub value : Phase
  pub rest : List ℕ
  pub working : is_lost value ≡ false
  pub parts : bytes ≡ phase_code value ∷ rest
  pub fits : IsBytes rest
  pub spelled : Encodes (next value) end rest

and_left : (a b : Bool) → a && b ≡ true → a ≡ true
and_left true b both = refl
and_left false b both = absurd cc

and_right : (a b : Bool) → a && b ≡ true → b ≡ true
and_right true b both = both
and_right false b both = absurd cc

-- what was found in a list passes a test that each of the list passes
found_in : {X : Type 0} (p q : X → Bool) (xs : List X) (x : X) → list_all q xs ≡ true → find p xs ≡ Some x → q x ≡ true
found_in p q [] x all is = absurd cc
found_in {X} p q (y ∷ ys) x all is = at (found_in p q ys x (and_right (q y) (list_all q ys) all)) (p y) is
  where
    at : (find p ys ≡ Some x → q x ≡ true) → (t : Bool) → cond t (Some y) (find p ys) ≡ Some x → q x ≡ true
    at later true e = let same : y ≡ x = cc in rw (← same) (and_left (q y) (list_all q ys) all)
    at later false e = later e

not_true : (b : Bool) → not b ≡ true → b ≡ false
not_true true is = absurd cc
not_true false is = refl

phase_decoded : (place : ℕ) (next : Phase → Layout Ending) (f : Fields) (bytes : List ℕ) → IsBytes bytes → Encodes (byte_then (λ code. value_then (phase_at code) place next)) (Ok f) bytes → Phased next (Ok f) bytes
phase_decoded place next f bytes fits spelled =
    let b = byte_prefix (λ code. value_then (phase_at code) place next) (Ok f) bytes fits spelled in
    let v = value_decoded (phase_at b.value) place next f b.rest b.spelled in
    let same = eqb-true _ _ (found (λ (phase : Phase). eqb (phase_code phase) b.value) phases v.value v.is) in
    let works = found_in (λ (phase : Phase). eqb (phase_code phase) b.value) (λ (phase : Phase). not (is_lost phase)) phases v.value refl v.is in
    record { value = v.value; rest = b.rest; working = not_true _ works; parts = b.parts ∙ ap (λ (x : ℕ). x ∷ b.rest) (sym same); fits = b.fits; spelled = v.spelled }

-- a record that ends with these fields
abbrev pub wholly : Fields → Ending
wholly f = Ok f

-- the content
content_decoded : (f g : Fields) (bytes : List ℕ) → Encodes (content_then f) (Ok g) bytes → (f ≡ g) × (length bytes ≡ f.count) × (ends_in_zero bytes ≡ false)
content_decoded f g bytes spelled =
    let p = not_refused (ends_in_zero (take f.count bytes)) (Ends (Ok f)) (malformed Value (22 + f.count)) g (drop f.count bytes) spelled.1 in
    let none : drop f.count bytes ≡ [] = p.1.1 in
    let size : length bytes ≡ f.count = omega (arith, spelled.0, ap length none, length-drop f.count bytes) in
    let whole : take f.count bytes ≡ bytes = take_all f.count bytes (omega (arith, size)) in
    let ended : wholly f ≡ wholly g = p.1.0 in
    (cc, size, ap ends_in_zero (sym whole) ∙ p.0)

-- the number of content bytes, and the content
pub record Counted (size : ℕ) (regs : Regs) (cancelled : Bool) (number : ℕ) (f : Fields) (bytes : List ℕ) : Type 0 where
  pub content : List ℕ
  pub regs_are : f.regs ≡ regs
  pub cancelled_is : f.cancelled ≡ cancelled
  pub number_is : f.number ≡ number
  pub parts : bytes ≡ short f.count ++ content
  pub sized : 14 + f.count ≡ size
  pub idle : is_idle regs.phase ≡ true → f.count ≡ 0
  pub full : length content ≡ f.count
  pub trimmed : ends_in_zero content ≡ false
  pub fits : IsBytes content

none_in_idle : (idle : Bool) (count : ℕ) → idle && nat_lt 0 count ≡ false → idle ≡ true → count ≡ 0
none_in_idle true count none is = grind (arith, nat_tests)
none_in_idle false count none is = absurd cc

not_false : (b : Bool) → not b ≡ false → b ≡ true
not_false true is = refl
not_false false is = absurd cc

-- what follows each number
abbrev pub idle_next : Fields → Layout Ending
idle_next f = cond (is_idle f.regs.phase && nat_lt 0 f.count) (refuse Value 21) (content_then f)

abbrev pub count_next : ℕ → Regs → Bool → ℕ → ℕ → Layout Ending
count_next size regs cancelled number count = cond (not (eqb (14 + count) size)) (refuse Length 21) (idle_next (record { regs = regs; cancelled = cancelled; number = number; count = count }))

abbrev pub magic_byte_next : ℕ → Regs → Bool → Layout Ending
magic_byte_next size regs cancelled = cond (cancelled && not (is_executing regs.phase)) (refuse Value 12) (long_then (λ number. count_then size regs cancelled number))

abbrev pub phase_next : ℕ → Bool → Bool → Phase → Layout Ending
phase_next size granted cancel phase = job_then size (record { granted = granted; cancel = cancel; phase = phase })

abbrev pub cancel_next : ℕ → Bool → Bool → Layout Ending
cancel_next size granted cancel = byte_then (λ code. value_then (phase_at code) 11 (phase_next size granted cancel))

abbrev pub granted_next : ℕ → Bool → Layout Ending
granted_next size granted = flag_then 10 (cancel_next size granted)

abbrev pub size_next : ℕ → Layout Ending
size_next size = cond (nat_lt size 14 || nat_lt 3982 size) (refuse Length 5) (registers_then size)

counted : (g f : Fields) (size : ℕ) (bytes rest : List ℕ) → bytes ≡ short g.count ++ rest → IsBytes rest → 14 + g.count ≡ size → (is_idle g.regs.phase ≡ true → g.count ≡ 0) → Encodes (content_then g) (Ok f) rest
    → Counted size g.regs g.cancelled g.number f bytes
counted g f size bytes rest parts fits sized idle spelled =
    let t = content_decoded g f rest spelled in
    let same : f ≡ g = sym t.0 in
    subst (λ (h : Fields). Counted size g.regs g.cancelled g.number h bytes) t.0
    (record { content = rest; regs_are = refl; cancelled_is = refl; number_is = refl; parts = parts; sized = sized; idle = idle; full = t.1; trimmed = t.2; fits = fits })

count_decoded : (size : ℕ) (regs : Regs) (cancelled : Bool) (number : ℕ) (f : Fields) (bytes : List ℕ) → IsBytes bytes → Encodes (count_then size regs cancelled number) (Ok f) bytes
    → Counted size regs cancelled number f bytes
count_decoded size regs cancelled number f bytes fits spelled =
    let c = short_prefix (count_next size regs cancelled number) (Ok f) bytes fits spelled in
    let g : Fields = record { regs = regs; cancelled = cancelled; number = number; count = c.value } in
    let p = not_refused (not (eqb (14 + c.value) size)) (idle_next g) (malformed Length 21) f c.rest c.spelled in
    let q = not_refused (is_idle regs.phase && nat_lt 0 c.value) (content_then g) (malformed Value 21) f c.rest p.1 in
    counted g f size bytes c.rest c.parts c.fits (eqb-true _ _ (not_false _ p.0)) (none_in_idle (is_idle regs.phase) c.value q.0) q.1

waits_if : (cancelled executing : Bool) → cancelled && not executing ≡ false → cancelled ≡ true → executing ≡ true
waits_if true executing not_so is = not_false executing not_so
waits_if false executing not_so is = absurd cc

-- the job, and all behind it
pub record Jobbed (size : ℕ) (regs : Regs) (f : Fields) (bytes : List ℕ) : Type 0 where
  pub content : List ℕ
  pub regs_are : f.regs ≡ regs
  pub parts : bytes ≡ flag_byte f.cancelled ∷ (long f.number ++ (short f.count ++ content))
  pub sized : 14 + f.count ≡ size
  pub waits : f.cancelled ≡ true → is_executing regs.phase ≡ true
  pub number : f.number < 2 ^ 64
  pub idle : is_idle regs.phase ≡ true → f.count ≡ 0
  pub full : length content ≡ f.count
  pub trimmed : ends_in_zero content ≡ false
  pub fits : IsBytes content

jobbed : (size : ℕ) (regs : Regs) (cancelled : Bool) (number : ℕ) (f : Fields) (bytes rest behind : List ℕ) → bytes ≡ flag_byte cancelled ∷ rest → rest ≡ long number ++ behind
    → cancelled && not (is_executing regs.phase) ≡ false → number < 2 ^ 64 → Counted size regs cancelled number f behind → Jobbed size regs f bytes
jobbed size regs cancelled number f bytes rest behind first next waits below c = record {
  content = c.content;
  regs_are = c.regs_are;
  parts = first ∙ ap (λ (flag : Bool). flag_byte flag ∷ rest) (sym c.cancelled_is)
      ∙ ap (λ (r : List ℕ). flag_byte f.cancelled ∷ r) (next ∙ ap (λ (n : ℕ). long n ++ behind) (sym c.number_is) ∙ ap (λ (r : List ℕ). long f.number ++ r) c.parts);
  sized = c.sized;
  waits = λ is. waits_if cancelled (is_executing regs.phase) waits (sym c.cancelled_is ∙ is);
  number = subst (λ (n : ℕ). n < 2 ^ 64) (sym c.number_is) below;
  idle = c.idle;
  full = c.full;
  trimmed = c.trimmed;
  fits = c.fits;
}

job_decoded : (size : ℕ) (regs : Regs) (f : Fields) (bytes : List ℕ) → IsBytes bytes → Encodes (job_then size regs) (Ok f) bytes → Jobbed size regs f bytes
job_decoded size regs f bytes fits spelled =
    let mark = flag_decoded 12 (magic_byte_next size regs) f bytes fits spelled in
    let w = not_refused (mark.value && not (is_executing regs.phase)) (long_then (λ number. count_then size regs mark.value number)) (malformed Value 12) f mark.rest mark.spelled in
    let n = long_prefix (λ number. count_then size regs mark.value number) (Ok f) mark.rest mark.fits w.1 in
    jobbed size regs mark.value n.value f bytes mark.rest n.rest mark.parts n.parts w.0 n.below (count_decoded size regs mark.value n.value f n.rest n.fits n.spelled)

within_limit : (size count : ℕ) → nat_lt size 14 || nat_lt 3982 size ≡ false → 14 + count ≡ size → count ≤ 3968
within_limit size count not_so is = grind (arith, nat_tests)

-- the fields behind the length, and the content
abbrev pub behind_length : Fields → List ℕ → List ℕ
behind_length f content =
    flag_byte f.regs.granted ∷ flag_byte f.regs.cancel ∷ phase_code f.regs.phase ∷ flag_byte f.cancelled ∷ (long f.number ++ (short f.count ++ content))

pub record Behind (size : ℕ) (f : Fields) (bytes : List ℕ) : Type 0 where
  pub content : List ℕ
  pub parts : bytes ≡ behind_length f content
  pub sized : 14 + f.count ≡ size
  pub whole : f.count ≤ 3968 → AreWhole f content

registered : (size : ℕ) (regs : Regs) (f : Fields) (bytes after_granted after_cancel after_phase : List ℕ) → bytes ≡ flag_byte regs.granted ∷ after_granted → after_granted ≡ flag_byte regs.cancel ∷ after_cancel
    → after_cancel ≡ phase_code regs.phase ∷ after_phase → is_lost regs.phase ≡ false → Jobbed size regs f after_phase → Behind size f bytes
registered size regs f bytes after_granted after_cancel after_phase granted cancel phase working j =
    let same : regs ≡ f.regs = sym j.regs_are in
    let all : bytes ≡ flag_byte regs.granted ∷ flag_byte regs.cancel ∷ phase_code regs.phase ∷ (flag_byte f.cancelled ∷ (long f.number ++ (short f.count ++ j.content))) =
    granted ∙ ap (λ (r : List ℕ). flag_byte regs.granted ∷ r) (cancel ∙ ap (λ (r : List ℕ). flag_byte regs.cancel ∷ r) (phase ∙ ap (λ (r : List ℕ). phase_code regs.phase ∷ r) j.parts)) in
    record {
      content = j.content;
      parts = all ∙ ap (λ (r : Regs). flag_byte r.granted ∷ flag_byte r.cancel ∷ phase_code r.phase ∷ (flag_byte f.cancelled ∷ (long f.number ++ (short f.count ++ j.content)))) same;
      sized = j.sized;
      whole = λ within_limit. record {
        working = subst (λ (r : Regs). is_lost r.phase ≡ false) same working;
        waits = λ is. subst (λ (r : Regs). is_executing r.phase ≡ true) same (j.waits is);
        number = j.number;
        count = within_limit;
        idle = λ is. j.idle (subst (λ (r : Regs). is_idle r.phase ≡ true) (sym same) is);
        size = j.full;
        trimmed = j.trimmed;
        bytes = j.fits;
      };
    }

registers_decoded : (size : ℕ) (f : Fields) (bytes : List ℕ) → IsBytes bytes → Encodes (registers_then size) (Ok f) bytes → Behind size f bytes
registers_decoded size f bytes fits spelled =
    let granted = flag_decoded 9 (granted_next size) f bytes fits spelled in
    let cancel = flag_decoded 10 (cancel_next size granted.value) f granted.rest granted.fits granted.spelled in
    let phase = phase_decoded 11 (phase_next size granted.value cancel.value) f cancel.rest cancel.fits cancel.spelled in
    let regs : Regs = record { granted = granted.value; cancel = cancel.value; phase = phase.value } in
    registered size regs f bytes granted.rest cancel.rest phase.rest granted.parts cancel.parts phase.parts phase.working (job_decoded size regs f phase.rest phase.fits phase.spelled)

-- a whole record: the header of its fields, and its content
pub record Whole (f : Fields) (bytes : List ℕ) : Type 0 where
  pub content : List ℕ
  pub parts : bytes ≡ encode_header f ++ content
  pub whole : AreWhole f content

-- the length, and all behind it
pub record Sized (f : Fields) (bytes : List ℕ) : Type 0 where
  pub content : List ℕ
  pub parts : bytes ≡ number (14 + f.count) ++ behind_length f content
  pub whole : AreWhole f content

sized : (size : ℕ) (f : Fields) (bytes rest : List ℕ) → bytes ≡ number size ++ rest → nat_lt size 14 || nat_lt 3982 size ≡ false → Behind size f rest → Sized f bytes
sized size f bytes rest first fits b = record {
  content = b.content;
  parts = first ∙ ap (λ (r : List ℕ). number size ++ r) b.parts ∙ ap (λ (n : ℕ). number n ++ behind_length f b.content) (sym b.sized);
  whole = b.whole (within_limit size f.count fits b.sized);
}

length_decoded : (f : Fields) (bytes : List ℕ) → IsBytes bytes → Encodes length_then (Ok f) bytes → Sized f bytes
length_decoded f bytes fits spelled =
    let s = number_prefix size_next (Ok f) bytes fits spelled in
    let l = not_refused (nat_lt s.value 14 || nat_lt 3982 s.value) (registers_then s.value) (malformed Length 5) f s.rest s.spelled in
    sized s.value f bytes s.rest s.parts l.0 (registers_decoded s.value f s.rest s.fits l.1)

-- the magic and the version
pub record Marked (marks : List ℕ) (next : Layout Ending) (f : Fields) (bytes : List ℕ) : Type 0 where
  pub rest : List ℕ
  pub parts : bytes ≡ marks ++ rest
  pub fits : IsBytes rest
  pub spelled : Encodes next (Ok f) rest

magic_decoded : (marks : List ℕ) (place : ℕ) (next : Layout Ending) (f : Fields) (bytes : List ℕ) → IsBytes bytes → Encodes (magic_then marks place next) (Ok f) bytes → Marked marks next f bytes
magic_decoded [] place next f bytes fits spelled = record { rest = bytes; parts = refl; fits = fits; spelled = spelled }
magic_decoded (mark ∷ marks) place next f bytes fits spelled =
    let m = magic_byte_prefix mark Magic place (magic_then marks (place + 1) next) f bytes fits spelled in
    let later = magic_decoded marks (place + 1) next f m.rest m.fits m.spelled in
    record { rest = later.rest; parts = m.parts ∙ ap (λ (r : List ℕ). mark ∷ r) later.parts; fits = later.fits; spelled = later.spelled }

-- What is decoded as a record is one.
pub record_decoded : (f : Fields) (bytes : List ℕ) → IsBytes bytes → Encodes record_layout (Ok f) bytes → Whole f bytes
unfolding record_layout
record_decoded f bytes fits spelled =
    let m = magic_decoded magic 0 (magic_byte_then 1 Version 4 length_then) f bytes fits spelled in
    let v = magic_byte_prefix 1 Version 4 length_then f m.rest m.fits m.spelled in
    let s = length_decoded f v.rest v.fits v.spelled in
    record { content = s.content; parts = m.parts ∙ ap (λ (r : List ℕ). magic ++ r) (v.parts ∙ ap (λ (r : List ℕ). 1 ∷ r) s.parts); whole = s.whole }

-- ---- and the other way round

flag_encoded : (place : ℕ) (next : Bool → Layout Ending) (end : Ending) (flag : Bool) (rest : List ℕ) → Encodes (next flag) end rest → Encodes (flag_then place next) end (flag_byte flag ∷ rest)
flag_encoded place next end true rest spelled = (omega arith, spelled)
flag_encoded place next end false rest spelled = (omega arith, spelled)

phase_encoded : (place : ℕ) (next : Phase → Layout Ending) (end : Ending) (phase : Phase) (rest : List ℕ) → is_lost phase ≡ false → Encodes (next phase) end rest
    → Encodes (byte_then (λ code. value_then (phase_at code) place next)) end (phase_code phase ∷ rest)
phase_encoded place next end Idle rest works spelled = (omega arith, spelled)
phase_encoded place next end Ready rest works spelled = (omega arith, spelled)
phase_encoded place next end Reception rest works spelled = (omega arith, spelled)
phase_encoded place next end Execution rest works spelled = (omega arith, spelled)
phase_encoded place next end Completion rest works spelled = (omega arith, spelled)
phase_encoded place next end Lost rest works spelled = absurd cc

long_encoded : (next : ℕ → Layout Ending) (end : Ending) (n : ℕ) (rest : List ℕ) → n < 2 ^ 64 → Encodes (next n) end rest → Encodes (long_then next) end (long n ++ rest)
long_encoded next end n rest below spelled =
    encodes_field (λ (field : List ℕ). next (from_be_bytes w64 field)) end 8 (long n) rest refl (subst (λ (k : ℕ). Encodes (next k) end rest) (sym (from_be_bytes-to_be_bytes_8 n below)) spelled)

short_encoded : (next : ℕ → Layout Ending) (end : Ending) (n : ℕ) (rest : List ℕ) → n < 2 ^ 16 → Encodes (next n) end rest → Encodes (short_then next) end (short n ++ rest)
short_encoded next end n rest below spelled =
    encodes_field (λ (field : List ℕ). next (from_be_bytes w16 field)) end 2 (short n) rest refl (subst (λ (k : ℕ). Encodes (next k) end rest) (sym (from_be_bytes-to_be_bytes_2 n below)) spelled)

-- a test that isn't passed leaves the other side
otherwise : (b : Bool) (p q : Layout Ending) (end : Ending) (bytes : List ℕ) → b ≡ false → Encodes q end bytes → Encodes (cond b p q) end bytes
otherwise true p q end bytes is spelled = absurd cc
otherwise false p q end bytes is spelled = spelled

content_encoded : (f : Fields) (content : List ℕ) → length content ≡ f.count → ends_in_zero content ≡ false → Encodes (content_then f) (Ok f) content
content_encoded f content size trimmed =
    let whole : take f.count content ≡ content = take_all f.count content (omega (arith, size)) in
    let none : drop f.count content ≡ [] = drop_all f.count content (omega (arith, size)) in
    (omega (arith, size), otherwise (ends_in_zero (take f.count content)) (refuse Value (22 + f.count)) (Ends (Ok f)) (Ok f) (drop f.count content) (ap ends_in_zero whole ∙ trimmed) (refl, none))

idle_or_some : (idle : Bool) (count : ℕ) → (idle ≡ true → count ≡ 0) → idle && nat_lt 0 count ≡ false
idle_or_some true count none = rw (none refl) refl
idle_or_some false count none = refl

waits_or_not : (cancelled executing : Bool) → (cancelled ≡ true → executing ≡ true) → cancelled && not executing ≡ false
waits_or_not true executing waits = rw (waits refl) refl
waits_or_not false executing waits = refl

in_range : (count : ℕ) → count ≤ 3968 → nat_lt (14 + count) 14 || nat_lt 3982 (14 + count) ≡ false
in_range count le = grind (arith, nat_tests)

counted_encoded : (f : Fields) (content : List ℕ) → AreWhole f content → Encodes (count_then (14 + f.count) f.regs f.cancelled f.number) (Ok f) (short f.count ++ content)
counted_encoded f content is =
    short_encoded (count_next (14 + f.count) f.regs f.cancelled f.number) (Ok f) f.count content (omega (arith, is.count))
    (otherwise (not (eqb (14 + f.count) (14 + f.count))) (refuse Length 21) (idle_next f) (Ok f) content (ap not (eq-eqb (14 + f.count) (14 + f.count) refl))
    (otherwise (is_idle f.regs.phase && nat_lt 0 f.count) (refuse Value 21) (content_then f) (Ok f) content (idle_or_some (is_idle f.regs.phase) f.count is.idle) (content_encoded f content is.size is.trimmed)))

job_encoded : (f : Fields) (content : List ℕ) → AreWhole f content → Encodes (job_then (14 + f.count) f.regs) (Ok f) (flag_byte f.cancelled ∷ (long f.number ++ (short f.count ++ content)))
job_encoded f content is =
    flag_encoded 12 (magic_byte_next (14 + f.count) f.regs) (Ok f) f.cancelled (long f.number ++ (short f.count ++ content))
    (otherwise (f.cancelled && not (is_executing f.regs.phase)) (refuse Value 12) (long_then (λ number. count_then (14 + f.count) f.regs f.cancelled number)) (Ok f)
    (long f.number ++ (short f.count ++ content)) (waits_or_not f.cancelled (is_executing f.regs.phase) is.waits)
    (long_encoded (λ number. count_then (14 + f.count) f.regs f.cancelled number) (Ok f) f.number (short f.count ++ content) is.number (counted_encoded f content is)))

registers_encoded : (f : Fields) (content : List ℕ) → AreWhole f content → Encodes (registers_then (14 + f.count)) (Ok f) (behind_length f content)
registers_encoded f content is =
    let job = flag_byte f.cancelled ∷ (long f.number ++ (short f.count ++ content)) in
    flag_encoded 9 (granted_next (14 + f.count)) (Ok f) f.regs.granted (flag_byte f.regs.cancel ∷ phase_code f.regs.phase ∷ job)
    (flag_encoded 10 (cancel_next (14 + f.count) f.regs.granted) (Ok f) f.regs.cancel (phase_code f.regs.phase ∷ job)
    (phase_encoded 11 (phase_next (14 + f.count) f.regs.granted f.regs.cancel) (Ok f) f.regs.phase job is.working (job_encoded f content is)))

length_encoded : (f : Fields) (content : List ℕ) → AreWhole f content → Encodes length_then (Ok f) (number (14 + f.count) ++ behind_length f content)
length_encoded f content is =
    encodes_number size_next (Ok f) (14 + f.count) (behind_length f content) (omega (arith, is.count))
    (otherwise (nat_lt (14 + f.count) 14 || nat_lt 3982 (14 + f.count)) (refuse Length 5) (registers_then (14 + f.count)) (Ok f) (behind_length f content) (in_range f.count is.count) (registers_encoded f content is))

-- A whole record is decoded as one.
pub record_encoded : (f : Fields) (content : List ℕ) → AreWhole f content → Encodes record_layout (Ok f) (encode_header f ++ content)
unfolding record_layout
record_encoded f content is =
    let behind = number (14 + f.count) ++ behind_length f content in
    magic_encode magic 0 (magic_byte_then 1 Version 4 length_then) (Ok f) (1 ∷ behind) (magic_byte_encodes 1 Version 4 length_then (Ok f) behind (length_encoded f content is))
