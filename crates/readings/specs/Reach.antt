-- What domains reach: static checks of any domain, what the executing one may see and could write, and the host's segments.
use Rattle.std.specs.Prelude.{ℕ, ◌-◌, Bool, true, false, List, [], ◌∷◌, ◌++◌, replicate}
use Rattle.words.specs.Answer.{refuse, ok}
use Rattle.state.specs.declared.record.Machine.{Machine}
use Rattle.references.specs.declared.flag.Flag.TheVariants as flag
use Rattle.readings.specs.Scene.{grant, machine_of}
use Rattle.readings.specs.Change.{length_to, relaid, located_at}
use Rattle.readings.specs.Question.{Row, permitting, reaching, part, ◌gives◌}

-- two segments of 4 words: domain 0, which executes, has R and E, domain 1 has W and G
abbrev apart : Machine
apart = machine_of (record { lengths = 4 ∷ 4 ∷ []; gates = []; rights = (1 ∷ 4 ∷ []) ∷ (2 ∷ 8 ∷ []) ∷ []; capabilities = [] })

-- the machine with a location that no machine may have
abbrev misled : Machine → Machine
misled m = located_at 16 0 0 m

-- of each domain: the flag that it has, and one that only the other has
abbrev static_rows : List Row
static_rows =
    (permitting apart 0 flag.Read 0 3 gives ok (3 ∷ [])) ∷
    (permitting apart 0 flag.Write 0 3 gives refuse 22) ∷
    (permitting apart 1 flag.Write 0 3 gives ok (3 ∷ [])) ∷
    (permitting apart 1 flag.Read 0 3 gives refuse 22) ∷
    (permitting apart 0 flag.Execute 1 3 gives ok (7 ∷ [])) ∷
    (permitting apart 0 flag.Gate 1 3 gives refuse 22) ∷
    (permitting apart 1 flag.Gate 1 3 gives ok (7 ∷ [])) ∷
    (permitting apart 1 flag.Execute 1 3 gives refuse 22) ∷
    (permitting apart 2 flag.Write 0 3 gives refuse 22) ∷
    (permitting apart 1 flag.Write 0 4 gives refuse 21) ∷
    (permitting apart 1 flag.Read 0 4 gives refuse 21) ∷
    (permitting apart 1 flag.Write 2 0 gives refuse 21) ∷
    (permitting (misled apart) 1 flag.Write 0 3 gives refuse 9) ∷
    (permitting (misled apart) 1 flag.Read 0 4 gives refuse 9) ∷ []

-- a segment of 4 words on which the executing domain has the rights r, and another domain all others
abbrev rightful : ℕ → Machine
rightful r = machine_of (record { lengths = 4 ∷ []; gates = []; rights = (r ∷ []) ∷ ((15 - r) ∷ []) ∷ []; capabilities = [] })

-- a capability of these flags on words 1-2 of such a segment; its source has the rights r, the executing domain none
abbrev handed : ℕ → Bool → Bool → Machine
handed r read write =
    machine_of (record { lengths = 4 ∷ []; gates = []; rights = [] ∷ (r ∷ []) ∷ []; capabilities = grant 0 1 2 1 read write ∷ [] })

-- seen by R, E or a read capability, written by W or a write capability
abbrev visible_rows : List Row
visible_rows =
    (reaching (rightful 0) 0 3 gives ok (0 ∷ 0 ∷ [])) ∷
    (reaching (rightful 1) 0 3 gives ok (1 ∷ 0 ∷ [])) ∷
    (reaching (rightful 2) 0 3 gives ok (0 ∷ 1 ∷ [])) ∷
    (reaching (rightful 4) 0 3 gives ok (1 ∷ 0 ∷ [])) ∷
    (reaching (rightful 8) 0 3 gives ok (0 ∷ 0 ∷ [])) ∷
    (reaching (rightful 15) 0 3 gives ok (1 ∷ 1 ∷ [])) ∷
    (reaching (rightful 15) 0 4 gives ok (0 ∷ 0 ∷ [])) ∷
    (reaching (rightful 15) 1 0 gives ok (0 ∷ 0 ∷ [])) ∷
    (reaching (handed 3 true false) 0 1 gives ok (1 ∷ 0 ∷ [])) ∷
    (reaching (handed 3 false true) 0 1 gives ok (0 ∷ 1 ∷ [])) ∷
    (reaching (handed 3 true true) 0 2 gives ok (1 ∷ 1 ∷ [])) ∷
    (reaching (handed 3 true true) 0 0 gives ok (0 ∷ 0 ∷ [])) ∷
    (reaching (handed 3 true true) 0 3 gives ok (0 ∷ 0 ∷ [])) ∷
    (reaching (handed 1 true true) 0 2 gives ok (1 ∷ 0 ∷ [])) ∷
    (reaching (handed 2 true true) 0 2 gives ok (0 ∷ 1 ∷ [])) ∷
    (reaching (handed 12 true true) 0 2 gives ok (0 ∷ 0 ∷ [])) ∷
    (reaching (relaid (length_to 0 2) (handed 3 true true)) 0 2 gives ok (0 ∷ 0 ∷ [])) ∷ []

-- segments of 5, 3 and 7 words; sixteen of 512
abbrev uneven : Machine
uneven = machine_of (record { lengths = 5 ∷ 3 ∷ 7 ∷ []; gates = []; rights = [] ∷ []; capabilities = [] })

abbrev sixteen : Machine
sixteen = machine_of (record { lengths = replicate 16 512; gates = []; rights = [] ∷ []; capabilities = [] })

-- the first and the last segment, the first number that is none, a memory that is too short, and 9 before 7 before 21
abbrev part_rows : List Row
part_rows =
    (part uneven 8192 0 gives ok (0 ∷ 0 ∷ 5 ∷ [])) ∷
    (part uneven 8192 1 gives ok (0 ∷ 5 ∷ 3 ∷ [])) ∷
    (part uneven 8192 2 gives ok (0 ∷ 8 ∷ 7 ∷ [])) ∷
    (part uneven 8192 3 gives ok (21 ∷ 0 ∷ 0 ∷ [])) ∷
    (part sixteen 8192 15 gives ok (0 ∷ 7680 ∷ 512 ∷ [])) ∷
    (part sixteen 8192 16 gives ok (21 ∷ 0 ∷ 0 ∷ [])) ∷
    (part uneven 8191 2 gives ok (7 ∷ 0 ∷ 0 ∷ [])) ∷
    (part uneven 8191 3 gives ok (7 ∷ 0 ∷ 0 ∷ [])) ∷
    (part (misled uneven) 8192 2 gives ok (9 ∷ 0 ∷ 0 ∷ [])) ∷
    (part (misled uneven) 8191 3 gives ok (9 ∷ 0 ∷ 0 ∷ [])) ∷ []

-- all three
abbrev pub reach_rows : List Row
reach_rows = static_rows ++ visible_rows ++ part_rows
