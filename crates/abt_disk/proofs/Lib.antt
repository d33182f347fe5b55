mod Tears
mod Moments
mod Crash
mod ReadRuns
mod LaidOut
