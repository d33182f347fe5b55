mod Elsewhere
mod FilesTold
mod MayPrint
mod Results
