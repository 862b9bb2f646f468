-- What is counted of documents, and of bytes of which none is made.
use Rattle.std.specs.Prelude.{ℕ, ◌+◌, ◌<◌, ◌^◌}
use Rattle.dump_commands.specs.declared.counts.Counts.{Counts}
use Rattle.dump_io.specs.declared.lines.find.Finding.{Finding}
use Rattle.dump_io.specs.declared.lines.find.Finding.TheVariants as finding

-- nothing was read
abbrev pub no_counts : Counts
no_counts = record { documents = 0; bytes = 0; breached = 0; damaged = 0; too_deep = 0; alone = 0; passed_over = 0; regions = 0; lost = 0; not_read = 0; files = 0; findings = 0 }

-- this number of bytes more are a damaged region
abbrev pub count_region : (len : ℕ) → Counts → Counts
count_region len n = record n { regions = n.regions + 1; lost = n.lost + len }

-- one more document of this length in which this is found
abbrev pub count_finding : (len : ℕ) → Finding → Counts → Counts
count_finding len finding.Canonical n = n
count_finding len finding.Breached n = record n { breached = n.breached + 1 }
count_finding len finding.Damaged n = count_region len (record n { damaged = n.damaged + 1 })
count_finding len finding.TooDeep n = record n { too_deep = n.too_deep + 1 }
count_finding len finding.Unvalidated n = n

-- one more document of this length, in which this is found, with this number of findings
abbrev pub count_document : Counts → (len : ℕ) → Finding → (findings : ℕ) → Counts
count_document n len found findings = count_finding len found (record n { documents = n.documents + 1; bytes = n.bytes + len; findings = n.findings + findings })

-- one more document of this length, which stands alone
abbrev pub count_alone : Counts → (len : ℕ) → Counts
count_alone n len = record n { documents = n.documents + 1; bytes = n.bytes + len; alone = n.alone + 1 }

-- one more document of this length, which a text says
abbrev pub count_said : Counts → (len : ℕ) → Counts
count_said n len = record n { documents = n.documents + 1; bytes = n.bytes + len }

-- one more text that has a fault, of which a line tells
abbrev pub count_fault : Counts → Counts
count_fault n = record n { damaged = n.damaged + 1; findings = n.findings + 1 }

-- this number of bytes more that are passed over, of which a line tells
abbrev pub count_gap : Counts → ℕ → Counts
count_gap n count = count_region count (record n { passed_over = n.passed_over + count; findings = n.findings + 1 })

-- one more file that isn't read to its end, with this number of bytes of which no part is made
abbrev pub count_left : Counts → ℕ → Counts
count_left n count = record n { not_read = n.not_read + count; files = n.files + 1 }

-- the same, and a line tells of it
abbrev pub count_rest : Counts → ℕ → Counts
count_rest n count = count_left (record n { findings = n.findings + 1 }) count

-- both together
abbrev pub plus : Counts → Counts → Counts
plus n m = record {
  documents = n.documents + m.documents;
  bytes = n.bytes + m.bytes;
  breached = n.breached + m.breached;
  damaged = n.damaged + m.damaged;
  too_deep = n.too_deep + m.too_deep;
  alone = n.alone + m.alone;
  passed_over = n.passed_over + m.passed_over;
  regions = n.regions + m.regions;
  lost = n.lost + m.lost;
  not_read = n.not_read + m.not_read;
  files = n.files + m.files;
  findings = n.findings + m.findings;
}

-- each of these is in the range of a count
pub record AreInRange (n : Counts) : Type 0 where
  pub documents : n.documents < 2 ^ 64
  pub bytes : n.bytes < 2 ^ 64
  pub breached : n.breached < 2 ^ 64
  pub damaged : n.damaged < 2 ^ 64
  pub too_deep : n.too_deep < 2 ^ 64
  pub alone : n.alone < 2 ^ 64
  pub passed_over : n.passed_over < 2 ^ 64
  pub regions : n.regions < 2 ^ 64
  pub lost : n.lost < 2 ^ 64
  pub not_read : n.not_read < 2 ^ 64
  pub files : n.files < 2 ^ 64
  pub findings : n.findings < 2 ^ 64
