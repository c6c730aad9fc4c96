mod Scans
mod Fresh
