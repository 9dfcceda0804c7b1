mod LongReports
