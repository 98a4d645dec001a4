-- The returned numbers, each named once.
use Rattle.std.specs.Prelude.{ℕ}

-- chunk header or body cut short
abbrev pub cut_short : ℕ
cut_short = 1

-- kind not the one due
abbrev pub wrong_kind : ℕ
wrong_kind = 2

-- length wrong for the kind
abbrev pub wrong_length : ℕ
wrong_length = 3

-- a field outside its range
abbrev pub bad_field : ℕ
bad_field = 4

-- words pass 8,192
abbrev pub too_many_words : ℕ
too_many_words = 5

-- bytes after kind 4
abbrev pub bytes_left : ℕ
bytes_left = 6

-- lent memory below 8,192 words
abbrev pub memory_too_short : ℕ
memory_too_short = 7

-- output buffer too short
abbrev pub output_too_short : ℕ
output_too_short = 8

-- machine record not sound
abbrev pub not_sound : ℕ
not_sound = 9

-- a gate whose domain lacks E
abbrev pub dead_gate : ℕ
dead_gate = 10

-- no such segment or word
abbrev pub no_word : ℕ
no_word = 21

-- flag missing
abbrev pub flag_missing : ℕ
flag_missing = 22

-- a word number leaves 0-4,095
abbrev pub out_of_range : ℕ
out_of_range = 23

-- no live capability matches, or no frame
abbrev pub no_match : ℕ
no_match = 24

-- matched, source fails its static check
abbrev pub source_fails : ℕ
source_fails = 25

-- bits 16-30 of a pointer word are not 0
abbrev pub bad_pointer : ℕ
bad_pointer = 26

-- bad instruction word
abbrev pub bad_instruction : ℕ
bad_instruction = 27

-- JUMP or CALL through a tagged pointer
abbrev pub tagged_transfer : ℕ
tagged_transfer = 28

-- word not a gate
abbrev pub not_gate : ℕ
not_gate = 29

-- n above 8, tagged return location, bad mode word
abbrev pub bad_argument : ℕ
bad_argument = 30

-- eight frames in use
abbrev pub no_free_frame : ℕ
no_free_frame = 31

-- tagged RET with no frame or another place or s
abbrev pub bad_return : ℕ
bad_return = 32
