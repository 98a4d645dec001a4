-- When a layout is sound: every number is in its range, whatever is named exists, no gate is dead, and unused rows are zero.
use Rattle.std.specs.Prelude.{ℕ, zero, suc, ◌+◌, ◌/◌, ◌%◌, Bool, true, ◌&&◌, ◌||◌, List, ltb, leb, eqb, get_or, if◌then◌else◌}
use Rattle.state.specs.declared.record.Start.{Start}
use Rattle.state.specs.declared.record.Layout.{Layout}
use Rattle.state.specs.Bases.{words_in}
use Rattle.references.specs.declared.flag.Flag.TheVariants as flag
use Rattle.references.specs.Flag.{has}
use Rattle.references.specs.Static.{rights_of}

-- a test of the n numbers from i on
unfoldable pub all_from : ℕ → ℕ → (ℕ → Bool) → Bool
all_from zero i p = true
all_from (suc n) i p = p i && all_from n (i + 1) p

abbrev pub between : ℕ → ℕ → ℕ → Bool
between low high n = leb low n && leb n high

-- a segment has 1-4,096 words, at most as many gates, into a domain that exists; an unused row is zero
unfoldable pub segment_test : ℕ → ℕ → ℕ → ℕ → ℕ → ℕ → Bool
segment_test segments domains i length gates domain =
    if ltb i segments then between 1 4096 length && (leb gates length && ltb domain domains) else eqb length 0 && (eqb gates 0 && eqb domain 0)

-- a domain's stack segment exists; an unused row is zero
unfoldable pub stack_test : ℕ → ℕ → ℕ → ℕ → Bool
stack_test segments domains i stack = if ltb i domains then ltb stack segments else eqb stack 0

-- the rights byte at 16 * domain + segment is 0-15 where both exist, else zero
unfoldable pub rights_test : ℕ → ℕ → ℕ → ℕ → Bool
rights_test segments domains i rights = if ltb (i / 16) domains && ltb (i % 16) segments then leb rights 15 else eqb rights 0

-- the start domain and the start segment exist, with a start word of at most 4,095
unfoldable pub start_test : ℕ → ℕ → Start → Bool
start_test segments domains start = ltb start.domain domains && (ltb start.segment segments && leb start.word 4095)

-- every number of a layout is in its range, whatever is named exists, and unused rows are zero
unfoldable pub ranges_test : Layout → Bool
ranges_test l =
    between 1 16 l.segments && (between 1 8 l.domains && (
    all_from 16 0 (λ i. segment_test l.segments l.domains i (get_or l.lengths i 0) (get_or l.gates i 0) (get_or l.gatedomains i 0)) && (
    leb (words_in l.lengths) 8192 && (
    all_from 8 0 (λ i. stack_test l.segments l.domains i (get_or l.stacks i 0)) && (
    all_from 128 0 (λ i. rights_test l.segments l.domains i (get_or l.rights i 0)) &&
    start_test l.segments l.domains l.start)))))

-- a segment has no gates, or their domain has E on it; else its gates are dead
unfoldable pub gate_test : List ℕ → ℕ → ℕ → ℕ → Bool
gate_test rights i gates domain = eqb gates 0 || has (rights_of rights domain i) flag.Execute

-- no gate is dead
unfoldable pub gates_test : List ℕ → List ℕ → List ℕ → Bool
gates_test gates gatedomains rights = all_from 16 0 (λ i. gate_test rights i (get_or gates i 0) (get_or gatedomains i 0))

-- a layout is sound where both tests are passed
unfoldable pub layout_test : Layout → Bool
layout_test l = ranges_test l && gates_test l.gates l.gatedomains l.rights
