-- The definitions at rows and texts by hand.
use Rattle.std.proofs.Common.{◌≡◌, [], ◌∷◌, ◌++◌, true, false, pos, codes, Ok, Err, refl}
use Rattle.std.specs.Fmt.{digits}
use Rattle.jiff_core.specs.Calendar.{days_of_months}
use Rattle.pq_items.specs.declared.item.Item.TheVariants as item
use Rattle.pq_report.specs.ReportReading.{fields_read, header_read, item_read, kind_read, number_read, parts_read, report_read, rows_read, span_read}
use Rattle.pq_report.specs.ReportText.{header, item_row, rows_text}
use Rattle.pq_report.specs.Summary.{summary_text}
use Rattle.pq_report.specs.declared.fault.ReportFault.TheVariants as fault
use Rattle.pq_time.specs.Printed.{date_shown, printed_moment}
use Rattle.pq_time.specs.Time.{time_of}
use Rattle.pq_time.specs.declared.clock.Clock.{Clock}
use Rattle.pq_words.specs.First.{first_between, first_of}

-- from a second after noon of 1 March 2024, at 1200 Hz
abbrev clock : Clock
clock = record { t0 = pos 1709294401000000000; rate = 1200000000 }

-- a record is clear or flagged, an event closed or open
pub rows : rows_text clock
    (item.Basic 1 24 264 10 229805362 false ∷ item.Basic 12 264 504 12 211869380 true ∷ item.Dip 1 252 336
    114896273 false ∷ item.Interruption 1 0 1200 0 true ∷ item.Swell 999 12 24 253000001 false ∷ [])
    ≡ codes
    "kind,channel,start,end,from,to,tick,value,count,mark\n"
    ++ codes "basic,1,24,264,2024-03-01T12:00:01.020000000Z,2024-03-01T12:00:01.220000000Z,,229805362,10,"
    ++ codes "clear\n"
    ++ codes "basic,12,264,504,2024-03-01T12:00:01.220000000Z,2024-03-01T12:00:01.420000000Z,,211869380,"
    ++ codes "12,flagged\n"
    ++ codes "dip,1,252,336,2024-03-01T12:00:01.210000000Z,2024-03-01T12:00:01.280000000Z,,114896273,0,"
    ++ codes "closed\n"
    ++ codes "interruption,1,0,1200,2024-03-01T12:00:01.000000000Z,2024-03-01T12:00:02.000000000Z,,0,0,"
    ++ codes "open\n"
    ++ codes "swell,999,12,24,2024-03-01T12:00:01.010000000Z,2024-03-01T12:00:01.020000000Z,,253000001,0,"
    ++ codes "closed\n"
unfolding header item_row time_of printed_moment date_shown days_of_months first_between first_of digits
rows = refl

-- a reading, and a ten-minute record at a rate that divides no second, each with its tick
pub rows_with_ticks : (item_row (record { t0 = pos 1709294409995000000; rate = 1200000000 })
    (item.Frequency (pos 1709294410) 6 12006 499 50000000 false)
    ≡ codes
    "freq,0,6,12006,2024-03-01T12:00:10.000000000Z,2024-03-01T12:00:20.000000000Z,"
    ++ codes "2024-03-01T12:00:10.000000000Z,50000000,499,clear\n")
    × (item_row (record { t0 = pos 1709294399000000000; rate = 1199000000 })
    (item.Ten 1 (pos 1709294400) 1200 720720 2998 229805362 false)
    ≡ codes
    "ten,1,1200,720720,2024-03-01T12:00:00.000834028Z,2024-03-01T12:10:00.100917431Z,"
    ++ codes "2024-03-01T12:00:00.000000000Z,229805362,2998,clear\n")
unfolding item_row time_of printed_moment date_shown days_of_months first_between first_of digits
rows_with_ticks = (refl, refl)

-- a basic interval and an open dip, read back
pub items_read : report_read clock (codes
    "kind,channel,start,end,from,to,tick,value,count,mark\n"
    ++ codes "basic,1,24,264,2024-03-01T12:00:01.020000000Z,2024-03-01T12:00:01.220000000Z,,229805362,10,"
    ++ codes "clear\n"
    ++ codes "dip,1,252,336,2024-03-01T12:00:01.210000000Z,2024-03-01T12:00:01.280000000Z,,114896273,0,"
    ++ codes "open\n")
    ≡ Ok (item.Basic 1 24 264 10 229805362 false ∷ item.Dip 1 252 336 114896273 true ∷ [])
unfolding parts_read rows_read header_read fields_read span_read item_read kind_read number_read time_of
    printed_moment date_shown days_of_months first_between first_of digits
items_read = refl

-- 265 for 264: the moment doesn't fit the place
pub moment_at_fault : report_read clock (codes
    "kind,channel,start,end,from,to,tick,value,count,mark\n"
    ++ codes "basic,1,24,265,2024-03-01T12:00:01.020000000Z,2024-03-01T12:00:01.220000000Z,,229805362,10,"
    ++ codes "clear\n")
    ≡ Err (fault.Field 2 6)
unfolding parts_read rows_read header_read fields_read span_read item_read kind_read number_read time_of
    printed_moment date_shown days_of_months first_between first_of digits
moment_at_fault = refl

-- no header, one of another order, and a header without a line end
pub headers_at_fault : (report_read clock [] ≡ Err (fault.Field 1 0))
    × (report_read clock (codes "kind,channel,start,end,from,to,value,tick,count,mark\n") ≡ Err
    (fault.Field 1 7))
    × (report_read clock (codes "kind,channel,start,end,from,to,tick,value,count,mark") ≡ Err
    (fault.Field 1 0))
unfolding parts_read rows_read header_read
headers_at_fault = (refl, refl, refl)

-- nine fields, a place with a leading zero, and a row without a line end
pub rows_at_fault : (report_read clock (codes
    "kind,channel,start,end,from,to,tick,value,count,mark\na,b,c,d,e,f,g,h,i\n") ≡ Err (fault.Field 2 0))
    × (report_read clock (codes
    "kind,channel,start,end,from,to,tick,value,count,mark\ntwo,7,024,d,e,f,g,h,i,j\n")
    ≡ Err (fault.Field 2 3))
    × (report_read clock (codes
    "kind,channel,start,end,from,to,tick,value,count,mark\ntwo") ≡ Err (fault.Field 2 0))
unfolding parts_read rows_read header_read fields_read span_read item_read kind_read number_read digits
rows_at_fault = (refl, refl, refl)

-- the summary of no items, and of the two of two_intervals
pub summaries : (summary_text 0 0 [] ≡ codes
    "seed 0\nsamples 0\nfreq 0 flagged 0\nbasic 0 flagged 0\nshort 0 flagged 0\nten 0 flagged 0\n"
    ++ codes "two 0 flagged 0\ndip 0 open 0\nswell 0 open 0\ninterruption 0 open 0\nfold 0\n")
    × (summary_text 7 552
    (item.Basic 1 24 264 10 229805362 false ∷ item.Basic 1 264 504 10 229805362 false ∷ []) ≡ codes
    "seed 7\nsamples 552\nfreq 0 flagged 0\nbasic 2 flagged 0\nshort 0 flagged 0\n"
    ++ codes "ten 0 flagged 0\ntwo 0 flagged 0\ndip 0 open 0\nswell 0 open 0\ninterruption 0 open 0\n"
    ++ codes "fold 7353780272\n")
unfolding summary_text digits
summaries = (refl, refl)

-- items of each kind; the fold passes 2^64
pub summary_of_each : summary_text 18446744073709551615 722400
    (item.Frequency (pos 1709294410) 6 12006 499 50000000 false ∷ item.Basic 1 24 264 10 229805362 false
    ∷ item.Basic 2 264 504 12 211869380 true ∷ item.Short 1 24 3624 229805362 false
    ∷ item.Ten 1 (pos 1709294400) 1200 720720 2998 229805362 true
    ∷ item.TwoHour 1 (pos 1709294400) 0 8640000 18446744073709551615 true
    ∷ item.Dip 1 252 336 114896273 false ∷ item.Dip 2 300 400 114896273 true
    ∷ item.Swell 3 12 24 253000001 false ∷ item.Interruption 1 0 1200 0 true ∷ []) ≡ codes
    "seed 18446744073709551615\nsamples 722400\nfreq 1 flagged 0\nbasic 2 flagged 1\n"
    ++ codes "short 1 flagged 0\nten 1 flagged 1\ntwo 1 flagged 1\ndip 2 open 1\nswell 1 open 0\n"
    ++ codes "interruption 1 open 1\nfold 11704348829557553478\n"
unfolding summary_text digits
summary_of_each = refl
