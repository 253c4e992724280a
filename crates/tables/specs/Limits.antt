-- The numbers of document 01, and of document 02, [6]. Assumes nothing.
use Rattle.std.specs.Prelude.{ℕ}

-- "N scans, 1 to 1,024."
abbrev pub most_scans : ℕ
most_scans = 1024

-- "Q settings, 1 to 16, numbered from 0."
abbrev pub most_settings : ℕ
most_settings = 16

-- "A rate is 0 to 1,048,575"; "Every other distortion is 0 to 1,048,575."
abbrev pub most_cell : ℕ
most_cell = 1048575

-- "4,294,967,295 meaning 'this choice is forbidden'"
abbrev pub forbidden : ℕ
forbidden = 4294967295

-- "Both sums are at most 1,073,740,800."
abbrev pub most_total : ℕ
most_total = 1073740800

-- no number of the documents: 2 ^ 30, which the rates and the distortions of no sequence come to, stands where there is none
abbrev pub over_total : ℕ
over_total = 1073741824

-- "n from 0 and d from 1, both at most 1,073,741,823"
abbrev pub most_term : ℕ
most_term = 1073741823

-- document 02, [6]: "N is at most 64 and B at most 4,095"
abbrev pub most_short_scans : ℕ
most_short_scans = 64

abbrev pub most_short_budget : ℕ
most_short_budget = 4095

-- "For C channels (1 to 1,048,576)"
abbrev pub most_channels : ℕ
most_channels = 1048576
