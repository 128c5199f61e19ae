mod PrintedLaws
mod RangeLaws
mod RowLaws
