-- The numbers of the refusal table, and of the reasons for standing aside. Success is 0. [F76]
-- Document 01, "When a call says no"; the reasons also "Rank and replay".
-- Assumes nothing.
use Rattle.std.specs.Prelude.{ℕ, zero, suc}

-- a lent buffer is not of the stated length
abbrev pub bad_buffer : ℕ
bad_buffer = 1

-- what is given for reading is not of its length: a block of 512 bytes, a file of 1 to 86 blocks; or a row, an SAB2 file, a plan not of theirs
abbrev pub bad_length : ℕ
bad_length = 2

-- the letters are not SAB1, or SAB2 or PLN1 where these are asked for
abbrev pub bad_letters : ℕ
bad_letters = 3

-- a sum differs
abbrev pub bad_sum : ℕ
bad_sum = 4

-- a unit above 7 in a header, a count above 6, an unused place that is not zero
abbrev pub bad_header : ℕ
bad_header = 5

-- another archive
abbrev pub other_archive : ℕ
other_archive = 6

-- a record or wish is malformed
abbrev pub malformed : ℕ
malformed = 7

-- a number is not its unit's next, or seen is above the held counts
abbrev pub not_next : ℕ
not_next = 8

-- seen is not closed
abbrev pub not_closed : ℕ
not_closed = 9

-- a held identity with other bytes
abbrev pub other_bytes : ℕ
other_bytes = 10

-- a 513th record that is not folded
abbrev pub full_log : ℕ
full_log = 11

-- the object is absent
abbrev pub no_object : ℕ
no_object = 12

-- the folder is absent
abbrev pub no_folder : ℕ
no_folder = 13

-- the folder of a make or a move is a trace, or the object of a store is a folder
abbrev pub wrong_kind : ℕ
wrong_kind = 14

-- the label is already in that folder
abbrev pub label_held : ℕ
label_held = 15

-- the folder to remove has entries
abbrev pub not_empty : ℕ
not_empty = 16

-- a last contents or place record is unseen; only a reason for standing aside
abbrev pub unseen_change : ℕ
unseen_change = 17

-- the named record does not stand aside
abbrev pub not_aside : ℕ
not_aside = 18

-- the folder of a move is its object or lies below it
abbrev pub into_itself : ℕ
into_itself = 25

-- the lent log, list or base is not sound
abbrev pub unsound_log : ℕ
unsound_log = 19

-- a file's blocks disagree, or its ranks do not rise
abbrev pub bad_file : ℕ
bad_file = 20

-- a call's own unit is above 7
abbrev pub bad_unit : ℕ
bad_unit = 21

-- the label of a make, rename or move wish has a stroke
abbrev pub stroke_in_label : ℕ
stroke_in_label = 24

-- a unit is not listed: that of a record, the own unit of an act, or one that a given list leaves out
abbrev pub unlisted : ℕ
unlisted = 26

-- the base vector is not covered
abbrev pub below_base : ℕ
below_base = 27

-- the unit has used its last number, 65,535
abbrev pub last_number : ℕ
last_number = 28

-- records are folded, and an SAB1 file cannot hold them
abbrev pub folded_records : ℕ
folded_records = 29

-- ---- the order of checks

-- the first of two numbers that is not 0
abbrev pub first_of : ℕ → ℕ → ℕ
first_of zero n = n
first_of (suc m) n = suc m
